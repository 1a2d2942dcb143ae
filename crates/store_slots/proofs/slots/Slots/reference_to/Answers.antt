use Rattle.store_slots.proofs.{found_in}
use Rattle.store_slots.proofs.slots.Slots.reference_to.Goals as goal

pub reference_to-requires : goal.reference_to-requires
reference_to-requires g c = (found_in c.self.view_is c.requires).within

pub returns : goal.returns
returns g c = rw (found_in c.self.view_is c.requires).there at c.reference_to.ensures
