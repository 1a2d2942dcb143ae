use Rattle.example_callers.proofs.{made, Ok}
use Rattle.example_callers.proofs.wrapping.Group.count_from.Goals as goal

pub returns-clause-seen : goal.returns-clause-seen
returns-clause-seen g c = made _ _ _ (Ok c.in_ok-raw.raw) c.in_ok-raw.ensures.step
