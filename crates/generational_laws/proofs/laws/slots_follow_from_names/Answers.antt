use Rattle.generational_laws.proofs.{lasts, no_slots, lasts_insert}
use Rattle.generational_laws.proofs.laws.slots_follow_from_names.Goals as goal

pub returns-clause-none : goal.returns-clause-none
unfolding lasts
returns-clause-none c = no_slots

pub returns-clause-more : goal.returns-clause-more
unfolding lasts
returns-clause-more c = lasts_insert
