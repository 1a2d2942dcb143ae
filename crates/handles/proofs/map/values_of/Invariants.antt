use Rattle.std.proofs.Common.{◌≡◌, ◌≤◌, ℕ, length, slice_get, take}
use Rattle.std.specs.Prelude.{vec_capacity}
use Rattle.handles.specs.Maps.{count, listed_from}
use Rattle.handles.proofs.Maps.{with_ids}
use Rattle.handles.proofs.map.values_of.Given as goal

-- the values of the rows so far, and the others as they were
abbrev pub invariant-loop-slot : goal.invariant-loop-slot
invariant-loop-slot g l = record {
  values : l.all.items ≡ with_ids g.row.T.Denot g.row.K.Denot (listed_from l.number 0 (take l.slot l.fn.rows.items));
  rest : (k : ℕ) → l.slot ≤ k → slice_get l.rows.items k ≡ slice_get l.fn.rows.items k;
  long : length l.rows.items ≡ length l.fn.rows.items;
  room : count l.fn.rows.items ≤ vec_capacity l.all;
}
