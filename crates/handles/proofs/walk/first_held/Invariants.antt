use Rattle.std.proofs.Common.{◌≡◌, ◌+◌, ◌≤◌, ◌^◌, ℕ, length}
use Rattle.handles.specs.Maps.{count, listed_from}
use Rattle.handles.proofs.walk.first_held.Given as goal

abbrev pub invariant-loop-first : goal.invariant-loop-first
invariant-loop-first g l = record {
  same : (number : ℕ) → listed_from {T = g.row.T.Denot} {K = g.row.K.Denot} number l.at l.left
      ≡ listed_from number l.fn.slot l.fn.rows;
  counted : count l.left ≡ count l.fn.rows;
  within : l.at + length l.left ≤ 2 ^ 32;
}

abbrev pub decreases-loop-first : goal.decreases-loop-first
decreases-loop-first g l = length l.left
