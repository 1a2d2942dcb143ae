use Rattle.std.proofs.Common.{take, ◌≡◌}
use Rattle.reactive_values.proofs.values.copies.Given as goal

-- Copies of the items before this one are made.
abbrev pub invariant-loop-x : goal.invariant-loop-x
invariant-loop-x g l = l.made.items ≡ take l.x-index l.xs
