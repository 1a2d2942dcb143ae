-- The end of a name.
use Rattle.store_slots.proofs.{target_told}
use Rattle.store_slots.proofs.slots.Slots.close.Goals as goal

pub would_end-ending-requires-clause-target : goal.would_end-ending-requires-clause-target
would_end-ending-requires-clause-target g c = target_told _ c.self.view_is _ c.target-target.ensures

pub take_away-requires-clause-target : goal.take_away-requires-clause-target
take_away-requires-clause-target g c = target_told _ c.self.view_is _ c.target-target.ensures
