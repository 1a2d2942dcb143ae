use Rattle.store_slots.proofs.loading.{last_changed}
use Rattle.store_slots.proofs.slots.loading.push_empty.Goals as goal

pub returns-clause-pushed : goal.returns-clause-pushed
returns-clause-pushed g c =
    rw (c.end.ensures.slots, c.push.ensures.pushed, c.len-slot.ensures) (last_changed _ _ _)
