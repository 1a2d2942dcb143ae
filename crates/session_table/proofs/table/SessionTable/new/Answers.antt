use Rattle.session_table.proofs.{below_none}
use Rattle.session_table.proofs.{empty_shows, fresh_kept, pointer_in}
use Rattle.session_table.proofs.table.SessionTable.new.Goals as goal

pub invariant_of-result : goal.invariant_of-result
invariant_of-result g c = rw (c.new.ensures.empty, c.requires) (fresh_kept _ _ _ _, below_none)

pub returns-clause-none : goal.returns-clause-none
returns-clause-none g c e = rw c.requires (empty_shows g.I.PartialEq.eq _ (fresh_kept _ _ _ _) (pointer_in e))
