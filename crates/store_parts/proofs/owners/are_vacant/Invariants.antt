use Rattle.std.proofs.Common.{◌≡◌, ℕ, ◌<◌, Some, None, slice_get}
use Rattle.store_parts.proofs.owners.are_vacant.Given as goal

-- the positions so far are vacant
abbrev pub invariant-loop-position : goal.invariant-loop-position
invariant-loop-position l = (k : ℕ) → k < l.position-index → slice_get l.records k ≡ Some None
