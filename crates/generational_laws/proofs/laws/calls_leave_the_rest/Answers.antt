use Rattle.generational_laws.proofs.{keeps, keeps_reach, keeps_unowned}
use Rattle.generational_laws.proofs.laws.calls_leave_the_rest.Goals as goal

pub returns : goal.returns
returns g c = search (keeps_reach, keeps, keeps_unowned)
