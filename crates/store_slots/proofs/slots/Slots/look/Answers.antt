use Rattle.store_slots.proofs.{arith, state_is}
use Rattle.store_slots.proofs.slots.Slots.look.Goals as goal

pub look-requires : goal.look-requires
look-requires g c = rw (← state_is c.self.view_is) at c.requires

pub returns : goal.returns
returns g c = grind (arith, state_is c.self.view_is, c.look.ensures)
