use Rattle.generational_laws.proofs.{plain_act, plain_meets}
use Rattle.generational_laws.proofs.laws.plain_states_step.Goals as goal

pub returns : goal.returns
returns g c = search (plain_act, plain_meets)
