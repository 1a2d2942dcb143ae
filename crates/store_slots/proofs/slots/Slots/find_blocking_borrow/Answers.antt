-- What hinders the end of a name.
use Rattle.store_slots.proofs.{ending_hinders, ending_in, target_told}
use Rattle.store_slots.proofs.slots.Slots.find_blocking_borrow.Goals as goal

pub would_end-requires-clause-target : goal.would_end-requires-clause-target
would_end-requires-clause-target g c = target_told _ c.self.view_is _ c.target-target.ensures

pub borrow_mut_error-requires : goal.borrow_mut_error-requires
borrow_mut_error-requires g c = (ending_in c.self.view_is c.requires c.in-Some.ensures).within

pub returns-in-Some : goal.returns-in-Some
returns-in-Some g c =
    let f = ending_in c.self.view_is c.requires c.in-Some.ensures in
    rw f.so (rw f.there at c.borrow_mut_error.ensures)

pub returns-in-None : goal.returns-in-None
returns-in-None g c = ending_hinders _ _ c.requires _ c.in-None.ensures
