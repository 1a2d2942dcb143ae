use Rattle.store_parts.proofs.{get, IsPositionBelow, nat_cmp, ℕ}
use Rattle.store_parts.proofs.owners.rows.positions_by_key.Given as goal

-- the positions so far are found by their keys
abbrev pub invariant-loop-position : goal.invariant-loop-position
invariant-loop-position l =
    (key : ℕ) → IsPositionBelow l.records l.position key (get nat_cmp l.by_key key)
