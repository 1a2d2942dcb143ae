use Rattle.generational_core.proofs.machine.{slots_are}
use Rattle.generational_laws.proofs.{arith, fresh_bounded, meets_bounded}
use Rattle.generational_laws.proofs.laws.slots_are_bounded.Goals as goal

pub returns : goal.returns
returns g c = search (arith, fresh_bounded, meets_bounded, slots_are)
