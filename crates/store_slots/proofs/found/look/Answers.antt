-- What a box reaches, and which borrow is there.
use Rattle.store_slots.proofs.{arith, get_cells, reached_live, sym}
use Rattle.store_slots.proofs.found.look.Goals as goal

pub returns-in_default : goal.returns-in_default
returns-in_default g c = rw get_cells (sym c.in_default.ensures)

pub is_unborrowed-requires : goal.is_unborrowed-requires
is_unborrowed-requires g c = (reached_live c.requires.targets c.in-Some.ensures).within

pub returns-then-is_unborrowed : goal.returns-then-is_unborrowed
returns-then-is_unborrowed g c =
    let f = reached_live c.requires.targets c.in-Some.ensures in
    (f.leads, grind (arith, f.holds, f.there))

pub borrow_error-requires : goal.borrow_error-requires
borrow_error-requires g c = (reached_live c.requires.targets c.in-Some.ensures).within

pub returns-in-None : goal.returns-in-None
returns-in-None g c =
    let f = reached_live c.requires.targets c.in-Some.ensures in
    (f.leads, grind (arith, f.holds, f.there), grind (arith, f.holds, f.there))

pub returns-in-Some-borrow_error : goal.returns-in-Some-borrow_error
returns-in-Some-borrow_error g c =
    let f = reached_live c.requires.targets c.in-Some.ensures in
    rw (f.leads, f.holds) (sym (rw f.there at c.in-Some-borrow_error.ensures))
