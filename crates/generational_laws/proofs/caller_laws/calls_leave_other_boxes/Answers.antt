use Rattle.generational_core.proofs.machine.{given_other, leaves, left_refusals, release_leaves}
use Rattle.generational_core.proofs.machine.{same_reach, same_value}
use Rattle.generational_laws.proofs.caller_laws.calls_leave_other_boxes.Goals as goal

pub returns : goal.returns
returns g c = search (same_reach, same_value, leaves, release_leaves, given_other, left_refusals)
