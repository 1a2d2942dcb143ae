use Rattle.store_slots.proofs.{arith, refused_live}
use Rattle.store_slots.proofs.blocking_borrow.find_blocking_borrow.Goals as goal

pub borrow_mut_error-requires : goal.borrow_mut_error-requires
borrow_mut_error-requires g c =
    (refused_live (rw c.in-Some.is at c.find_blocking_value.ensures.borrowed)).within

pub returns-in-Some : goal.returns-in-Some
returns-in-Some g c =
    let s = refused_live (rw c.in-Some.is at c.find_blocking_value.ensures.borrowed) in
    grind (arith, s.holds, s.there)
