use Rattle.generational_laws.proofs.{fresh_plain, reach_apart, reaches_own, stays_plain}
use Rattle.generational_laws.proofs.caller_laws.boxes_reach_their_own_cells.Goals as goal

pub returns : goal.returns
returns g c = search (reaches_own, reach_apart, fresh_plain, stays_plain)
