use Rattle.generational_core.proofs.machine.Calls.{points_seen}
use Rattle.generational_laws.proofs.caller_laws.pointed_boxes_see_what_others_saw.Goals as goal

pub returns : goal.returns
returns g c = λ S R a b. points_seen a b
