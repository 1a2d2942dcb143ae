use Rattle.generational_core.proofs.machine.Calls.{ended, ended_owned, reached_boxed}
use Rattle.generational_laws.proofs.{boxed_stays, made_boxed}
use Rattle.generational_laws.proofs.caller_laws.boxes_end_for_good.Goals as goal

pub returns : goal.returns
returns g c = search (made_boxed, boxed_stays, reached_boxed, ended, ended_owned)
