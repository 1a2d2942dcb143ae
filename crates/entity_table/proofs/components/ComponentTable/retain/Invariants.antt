use Rattle.std.proofs.Common.{◌≡◌}
use Rattle.std.specs.Fn.{FnReturnsAt}
use Rattle.entity_table.specs.Sweeping.{SiftsComponents}
use Rattle.entity_table.proofs.components.ComponentTable.retain.Given as goal

abbrev pub invariant-loop-slot : goal.invariant-loop-slot
invariant-loop-slot g l = record {
  sifted : SiftsComponents g.row.T.Denot (FnReturnsAt g.F.Fn l.test) l.fn.self l.self l.slot;
  number : l.self.number ≡ l.fn.self.number;
}
