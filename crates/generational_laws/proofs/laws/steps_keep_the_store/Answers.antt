use Rattle.generational_laws.proofs.{meets_number, meets_start, meets_next, meets_given}
use Rattle.generational_laws.proofs.laws.steps_keep_the_store.Goals as goal

pub returns : goal.returns
returns g c = search (meets_number, meets_start, meets_next, meets_given)
