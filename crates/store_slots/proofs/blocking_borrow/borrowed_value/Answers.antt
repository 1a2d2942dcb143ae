use Rattle.store_slots.proofs.{arith, get_cells, reached_live}
use Rattle.store_slots.proofs.blocking_borrow.borrowed_value.Goals as goal

pub returns-then-has_unborrowed_value : goal.returns-then-has_unborrowed_value
returns-then-has_unborrowed_value g c = grind (arith, get_cells)

pub is_unborrowed-requires : goal.is_unborrowed-requires
is_unborrowed-requires g c = (reached_live c.requires.targets (rw c.in-Some.is at c.reach.ensures)).within

pub returns-then-is_unborrowed : goal.returns-then-is_unborrowed
returns-then-is_unborrowed g c =
    let f = reached_live c.requires.targets (rw c.in-Some.is at c.reach.ensures) in
    grind (arith, get_cells, f.holds, f.leads, f.there)

pub returns : goal.returns
returns g c =
    let f = reached_live c.requires.targets (rw c.in-Some.is at c.reach.ensures) in
    grind (arith, get_cells, f.holds, f.leads, f.there)
