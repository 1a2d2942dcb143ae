use Rattle.std.proofs.Common.{length}
use Rattle.std.specs.Prelude.{⊤}
use Rattle.session_table.proofs.table.SessionTable.finish.Given as goal

abbrev pub invariant-places : goal.invariant-places
invariant-places g l = ⊤

abbrev pub decreases-places : goal.decreases-places
decreases-places g l = length l.self.sessions
