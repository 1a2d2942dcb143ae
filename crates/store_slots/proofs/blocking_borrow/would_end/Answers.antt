use Rattle.store_slots.proofs.{arith, found_target, name_of_cell, nat_tests, reference_to}
use Rattle.store_slots.proofs.blocking_borrow.would_end.Goals as goal

pub details-requires : goal.details-requires
details-requires g c =
    (found_target c.args.entries.now.slots c.requires.linked.targets (name_of_cell c.args.name) _
    (rw c.in-Some.is at c.requires.target)).within

pub returns-in-Some : goal.returns-in-Some
returns-in-Some g c =
    let t = found_target c.args.entries.now.slots c.requires.linked.targets (name_of_cell c.args.name) _
    (rw c.in-Some.is at c.requires.target) in
    grind (arith, nat_tests, reference_to, t.there)
