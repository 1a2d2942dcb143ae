use Rattle.store_parts.proofs.{None, record_at, slice_get, ℕ, ◌<◌, ◌≡◌}
use Rattle.store_parts.proofs.owners.search_position.Given as goal

-- no position so far has a record of the key
abbrev pub invariant-loop-position : goal.invariant-loop-position
invariant-loop-position l =
    (k : ℕ) → k < l.position → record_at l.key (slice_get l.records.items k) ≡ None
