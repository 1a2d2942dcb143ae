use Rattle.std.proofs.Common.{◌≡◌, ◌<◌, ◌+◌, ℕ, Some, slice_get, true, is_some}
use Rattle.generational_core.specs.declared.boxes.GenerationalBoxId.{GenerationalBoxId}
use Rattle.handles.specs.Handles.{id_in}
use Rattle.entity_table.specs.Tables.{element_in, Entity}
use Rattle.entity_table.proofs.parts.fault_in.Given as goal

-- the rows so far are of live entities, and their slots rise
abbrev pub invariant-loop-row : goal.invariant-loop-row
invariant-loop-row g l = record {
  live : (k : ℕ) (r : GenerationalBoxId × g.row.C.Denot) → k < l.row → slice_get l.rows k ≡ Some r
      → (e : Entity g.row.T.Denot) × (id_in e ≡ r.0) × (is_some (element_in l.table e) ≡ true);
  rise : (k : ℕ) (q r : GenerationalBoxId × g.row.C.Denot) → k + 1 < l.row → slice_get l.rows k ≡ Some q
      → slice_get l.rows (k + 1) ≡ Some r → q.0.slot < r.0.slot;
}
