use Rattle.example_callers.proofs.{test_sees, ◌∙◌}
use Rattle.example_callers.proofs.leaving.sees_value.Goals as goal

pub returns : goal.returns
returns g c = c.can_read.ensures ∙ test_sees _ _ (g.met.S.AnyStorage.sound _)
