use Rattle.std.proofs.Common.{◌≡◌, ◌≤◌, ℕ, length, vec_capacity}
use Rattle.slab.specs.Slab.{slab_len}
use Rattle.document_tree.specs.Building.{ArePut}
use Rattle.document_tree.specs.Taking.{part_row}
use Rattle.document_tree.proofs.building.fill.Given as goal

-- the parts so far are at their keys
abbrev pub invariant-loop-index : goal.invariant-loop-index
invariant-loop-index g l = record {
  put : ArePut {T = g.row.T.Denot} l.fn.rows.items l.counts l.sites l.keys.items l.parts.slots l.index;
  rest : (k : ℕ) → l.index ≤ k → part_row {T = g.row.T.Denot} l.rows.items k ≡ part_row l.fn.rows.items k;
  long : length l.rows.items ≡ length l.fn.rows.items;
  keys : length l.keys.items ≡ l.index;
  few : slab_len l.parts ≤ l.index;
  parts : l.parts.capacity ≡ l.fn.parts.capacity;
  room : vec_capacity l.keys ≡ vec_capacity l.fn.keys;
}
