-- Whether a borrow is in the way of an end.
use Rattle.store_slots.proofs.{target_told}
use Rattle.store_slots.proofs.slots.Slots.may_end.Goals as goal

pub may_lose-requires-clause-target : goal.may_lose-requires-clause-target
may_lose-requires-clause-target g c = target_told _ c.self.view_is _ c.target-target.ensures
