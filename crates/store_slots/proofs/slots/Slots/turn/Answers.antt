-- A reference that names another shared value, and its old target.
use Rattle.store_slots.proofs.{arith, ending_in, ending_left, hinders, name_of_cell, name_test, reference_to, refl}
use Rattle.store_slots.proofs.{sym, turns_done, ◌∙◌}
use Rattle.store_slots.proofs.slots.Slots.turn.Goals as goal

pub returns-then-eq : goal.returns-then-eq
returns-then-eq g c = grind (arith, reference_to, name_test)

pub borrow_mut_error-requires : goal.borrow_mut_error-requires
borrow_mut_error-requires g c = (ending_in c.self.view_is c.requires.linked c.in-Some.ensures).within

pub returns-in-Err : goal.returns-in-Err
returns-in-Err g c =
    let f = ending_in c.self.view_is c.requires.linked c.in-Some.ensures in
    grind (arith, reference_to, hinders, name_test, f.seen, f.there)

pub returns-in_default : goal.returns-in_default
returns-in_default g c = grind (arith, reference_to, turns_done, name_test)

pub remove-requires : goal.remove-requires
remove-requires g c =
    let r = reference_to _ _ c.requires.refers in
    let left = ending_left c.args.self.now.state _ _ (name_of_cell c.args.new) _ r.1 c.requires.linked
    (name_test _ _ ∙ sym c.if-eq.ensures) _ c.in-Some.ensures (name_of_cell c.in-Some.ending) refl in
    rw (rw r.1 at c.redirect-2.ensures) (record { there = left.0; named = left.1; alone = λ is. cc })

pub returns : goal.returns
returns g c =
    let f = ending_in c.self.view_is c.requires.linked c.in-Some.ensures in
    grind (arith, reference_to, turns_done, name_test, f.seen, f.there)
