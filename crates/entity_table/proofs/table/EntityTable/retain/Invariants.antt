use Rattle.std.specs.Fn.{FnReturnsAt}
use Rattle.entity_table.specs.Tables.{Sifts}
use Rattle.entity_table.proofs.table.EntityTable.retain.Given as goal

abbrev pub invariant-loop-slot : goal.invariant-loop-slot
invariant-loop-slot g l = Sifts (FnReturnsAt g.F.Fn l.test) l.fn.self l.self l.slot
