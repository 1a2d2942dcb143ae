-- Whether a borrow is at the value that goes with a name.
use Rattle.store_slots.proofs.{ending_hinders, ending_in, name_of_cell, refl}
use Rattle.store_slots.proofs.slots.Slots.may_lose.Goals as goal

pub is_unborrowed-requires : goal.is_unborrowed-requires
is_unborrowed-requires g c = (ending_in c.self.view_is c.requires.linked c.in-Some.ensures).within

pub returns-in-Some : goal.returns-in-Some
returns-in-Some g c =
    let f = ending_in c.self.view_is c.requires.linked c.in-Some.ensures in
    rw f.so (rw f.there at c.is_unborrowed.ensures)

pub returns-in-None : goal.returns-in-None
returns-in-None g c = rw (ending_hinders c.args.self.now.state (name_of_cell c.args.name)
    c.requires.linked _ c.in-None.ensures) refl
