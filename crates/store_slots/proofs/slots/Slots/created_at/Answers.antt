use Rattle.store_slots.proofs.{created_in, found_in}
use Rattle.store_slots.proofs.slots.Slots.created_at.Goals as goal

pub details-requires : goal.details-requires
details-requires g c = (found_in c.self.view_is c.requires).within

pub returns : goal.returns
returns g c = created_in c.self.view_is (found_in c.self.view_is c.requires) c.details.ensures.created
