use Rattle.store_slots.proofs.{state_is}
use Rattle.store_slots.proofs.saving.{borrowed_at, unborrowed_at}
use Rattle.store_slots.proofs.slots.Slots.find_borrowed.Goals as goal

pub returns-clause-some : goal.returns-clause-some
returns-clause-some g c =
    rw (← state_is c.self.view_is) (borrowed_at c.self.inside.entries.slots c.borrowed_slot.result
    c.borrowed_slot.ensures.within c.borrowed_slot.ensures.some)

pub returns-clause-none : goal.returns-clause-none
returns-clause-none g c =
    rw (← state_is c.self.view_is) (unborrowed_at c.self.inside.entries.slots c.borrowed_slot.result
    c.borrowed_slot.ensures.none)
