use Rattle.example_callers.proofs.{leaves, sets, sym}
use Rattle.example_callers.proofs.conditions.set_value.Goals as goal

pub returns-clause-set : goal.returns-clause-set
returns-clause-set g c _ = (sets _ _ c.set.ensures.0 c.set.ensures.1).2

pub returns-clause-others : goal.returns-clause-others
returns-clause-others g c b apart =
    leaves _ _ _ _ (g.met.S.AnyStorage.sound _) c.set.ensures.1 b (λ e. apart (sym e)) tt
