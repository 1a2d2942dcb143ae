use Rattle.store_slots.proofs.{name_of_cell, reached_in, reached_seen, refl}
use Rattle.store_slots.proofs.slots.Slots.peek.Goals as goal

pub peek-requires : goal.peek-requires
peek-requires g c = (reached_in c.self.view_is c.requires c.in-Some.ensures).within

pub returns-in-Some : goal.returns-in-Some
returns-in-Some g c =
    let r = reached_in c.self.view_is c.requires c.in-Some.ensures in
    rw (r.so, r.seen) (rw r.there at c.peek.ensures)

pub returns-in-None : goal.returns-in-None
returns-in-None g c = rw (← reached_seen _ c.self.view_is (name_of_cell c.args.name) c.in-None.ensures) refl
