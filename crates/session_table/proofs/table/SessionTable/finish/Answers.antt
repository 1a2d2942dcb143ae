use Rattle.session_table.proofs.{empty_shows, none_left, pointer_in}
use Rattle.session_table.proofs.table.SessionTable.finish.Goals as goal

pub returns-clause-gone : goal.returns-clause-gone
returns-clause-gone g c e = empty_shows g.I.PartialEq.eq _ (none_left _ _ _ _ c.self.invariant.0 c.self.view_is
    c.len.ensures.count c.places-test.false) (pointer_in e)
