use Rattle.generational_core.proofs.machine.Calls.{lends, lends_at, lends_free, opens, opens_free}
use Rattle.generational_core.proofs.machine.Calls.{puts_back, sets}
use Rattle.generational_laws.proofs.laws.guards_hold_what_boxes_see.Goals as goal

pub returns : goal.returns
returns g c = search (opens, lends, lends_at, opens_free, lends_free, sets, puts_back)
