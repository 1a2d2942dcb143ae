use Rattle.store_slots.proofs.{target_told}
use Rattle.store_slots.proofs.slots.Slots.target.Goals as goal

pub returns : goal.returns
returns g c = target_told _ c.self.view_is _ c.target.ensures
