use Rattle.example_callers.proofs.{keeps_known, made_shared}
use Rattle.example_callers.proofs.leaving.share_by.Goals as goal

pub returns-clause-seen : goal.returns-clause-seen
returns-clause-seen g c = made_shared _ _ _ _ c.insert_rc.ensures.step

pub returns-clause-others : goal.returns-clause-others
returns-clause-others g c o h other =
    keeps_known _ _ (g.met.S.AnyStorage.sound _) c.insert_rc.ensures.step o h other
