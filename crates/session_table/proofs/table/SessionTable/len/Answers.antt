use Rattle.session_table.proofs.{kept_orderly}
use Rattle.session_table.proofs.table.SessionTable.len.Goals as goal

pub returns-clause-orderly : goal.returns-clause-orderly
returns-clause-orderly g c = rw (← c.self.view_is)
    (kept_orderly g.I.PartialEq.eq _ _ _ c.self.invariant.0 c.len.ensures.unique)
