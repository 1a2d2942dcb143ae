use Rattle.std.proofs.Common.{◌≡◌, ◌≤◌, ◌-◌, ℕ, length, vec_capacity}
use Rattle.handles.specs.Maps.{count, row_at}
use Rattle.handles.proofs.map.fill.Given as goal

abbrev pub invariant-loop-rows : goal.invariant-loop-rows
invariant-loop-rows g l = record {
  room : l.len ≤ vec_capacity l.rows;
  most : (n : ℕ) → l.len ≤ n → length l.fn.rows.items ≤ n → length l.rows.items ≤ n;
  counted : count l.rows.items ≡ count l.fn.rows.items;
  same : (at : ℕ) → row_at l.rows.items at ≡ row_at l.fn.rows.items at;
}

abbrev pub decreases-loop-rows : goal.decreases-loop-rows
decreases-loop-rows g l = l.len - length l.rows.items
