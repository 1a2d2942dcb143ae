use Rattle.generational_laws.proofs.{fresh_listed, release_beside, stays_listed}
use Rattle.generational_laws.proofs.caller_laws.names_are_listed_once.Goals as goal

pub returns : goal.returns
returns g c = search (fresh_listed, stays_listed, release_beside)
