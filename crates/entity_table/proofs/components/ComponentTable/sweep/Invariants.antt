use Rattle.std.proofs.Common.{◌≡◌}
use Rattle.entity_table.specs.Sweeping.{Sweeps}
use Rattle.entity_table.proofs.components.ComponentTable.sweep.Given as goal

abbrev pub invariant-loop-slot : goal.invariant-loop-slot
invariant-loop-slot g l = record {
  swept : Sweeps {T = g.row.T.Denot} l.table l.fn.self l.self l.slot;
  number : l.self.number ≡ l.fn.self.number;
}
