use Rattle.generational_sessions.proofs.{new_matches, new_kept}
use Rattle.generational_sessions.proofs.session.Session.new.Goals as goal

pub invariant_of-result : goal.invariant_of-result
invariant_of-result g c = new_kept _ _ c.requires c.new.ensures.items

pub returns-clause-matches : goal.returns-clause-matches
returns-clause-matches g c = new_matches _ _ c.requires c.new.ensures.items
