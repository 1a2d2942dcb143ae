use Rattle.std.proofs.Common.{drop, length, take, ◌≡◌}
use Rattle.std.specs.Cmp.Lexicographic.{pointwise}
use Rattle.reactive_values.proofs.values.are_same.Given as goal

-- The items before this place are the same, so that the others decide.
abbrev pub invariant-loop-i : goal.invariant-loop-i
invariant-loop-i g l = (length l.xs ≡ length l.ys)
    × (pointwise g.T.Value.is_same l.xs l.ys ≡ pointwise g.T.Value.is_same (drop l.i l.xs) (drop l.i l.ys))
    × (take l.i l.xs ≡ take l.i l.ys)
