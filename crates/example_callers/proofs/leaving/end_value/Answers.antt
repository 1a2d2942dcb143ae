use Rattle.example_callers.proofs.{ended, leaves, on_ok_so, reached_boxed, refused_end}
use Rattle.example_callers.proofs.leaving.end_value.Goals as goal

pub returns-clause-ended : goal.returns-clause-ended
returns-clause-ended g c = on_ok_so c.manually_drop.result
    (λ ends m to. let boxed = reached_boxed _ _ m (g.met.S.AnyStorage.sound _) to in
    ends boxed.0 boxed.1)
    (ended _ c.manually_drop.result c.manually_drop.ensures)

pub returns-clause-refused : goal.returns-clause-refused
returns-clause-refused g c = refused_end _ _ c.manually_drop.ensures

pub returns-clause-others : goal.returns-clause-others
returns-clause-others g c b other =
    leaves _ _ _ _ (g.met.S.AnyStorage.sound _) c.manually_drop.ensures b other tt
