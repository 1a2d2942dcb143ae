use Rattle.generational_laws.proofs.{plain_fresh}
use Rattle.generational_laws.proofs.laws.fresh_states_are_plain.Goals as goal

pub returns : goal.returns
returns g c = plain_fresh _
