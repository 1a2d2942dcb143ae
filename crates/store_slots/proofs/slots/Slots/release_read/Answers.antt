use Rattle.store_slots.proofs.{changed_state, held_told, invariant_changed, less_read, name_of_cell, not_told, refl}
use Rattle.store_slots.proofs.slots.Slots.release_read.Goals as goal

pub invariant_of-self : goal.invariant_of-self
invariant_of-self g c =
    let f = held_told c.self.view_is c.if-holds.ensures in
    invariant_changed _ f.held (less_read c.args.ticket) c.self.invariant c.release_read.ensures.after
    c.release_read.ensures.rooms

pub returns-then-holds : goal.returns-then-holds
returns-then-holds g c =
    let f = held_told c.self.view_is c.if-holds.ensures in record {
      known = rw f.seen (rw f.there at c.release_read.ensures.known);
      after = rw f.seen (changed_state _ c.self.view_is f (less_read c.args.ticket) c.release_read.ensures.after);
    }

pub returns-else-holds : goal.returns-else-holds
returns-else-holds g c =
    rw (c.if-holds.false, not_told _ c.self.view_is (name_of_cell c.args.name) c.if-holds.ensures)
    (record { known = refl; after = refl })
