use Rattle.generational_box.proofs.{ap, arith, by_name, contains-insert_name, data_in, get-insert_here, kept}
use Rattle.generational_box.proofs.{made_counted, name_of_cell, option_copied, or_parts, pair_targets}
use Rattle.generational_box.proofs.{shared_full, shared_made, shared_refused, state_is}
use Rattle.generational_box.proofs.unsync.StoreStorage.new_rc.Goals as goal

pub returns-in-Err-clause-step : goal.returns-in-Err-clause-step
returns-in-Err-clause-step g c =
    rw (c.reserve.ensures.same, state_is c.self.view_is) (shared_refused c.self.inside.slots
    (state_is c.self.view_is) (option_copied c.args.owner) _ _ _ c.in-Err.ensures.refused)

pub returns-in-Err-reserve_two-clause-step : goal.returns-in-Err-reserve_two-clause-step
returns-in-Err-reserve_two-clause-step g c =
    let view = state_is c.self.view_is in let o = option_copied c.args.owner in
    let two = c.reserve_two.ensures in
    rw (c.in-Err-reserve_two.ensures.cause, two.state, c.reserve.ensures.same, view)
    (shared_full c.self.inside.slots view o _ _ c.in-Ok.ensures.known
    c.in-Err-reserve_two.ensures.needed)

pub reference_to-content-requires : goal.reference_to-content-requires
reference_to-content-requires g c =
    rw c.make_reserved-shared.ensures.added (grind (arith, get-insert_here, by_name))

pub make_reserved-reference-requires-clause-target : goal.make_reserved-reference-requires-clause-target
make_reserved-reference-requires-clause-target g c =
    rw (c.reference_to-content.ensures, c.make_reserved-shared.ensures.added)
    (grind (arith, get-insert_here, by_name))

pub make_reserved-reference-requires-clause-linked : goal.make_reserved-reference-requires-clause-linked
make_reserved-reference-requires-clause-linked g c =
    rw (c.make_reserved-shared.ensures.added, c.reserve_two.ensures.state)
    (pair_targets _ _ _ _ c.self.inside.sound.targets)

pub invariant_of-self-2 : goal.invariant_of-self-2
invariant_of-self-2 g c =
    let o = option_copied c.args.owner in
    let first = c.make_reserved-shared.ensures.added in
    let second = c.make_reserved-reference.ensures in let two = c.reserve_two.ensures.state in
    let twice = rw (first, two, contains-insert_name) at second.fits.ungiven in
    rw (c.list.ensures o c.in-Ok.ensures.ok, c.reserve.ensures.same)
    (made_counted _ c.self.inside.sound c.self.invariant (name_of_cell c.make_reserved-reference.result)
    (or_parts _ _ twice).1 o)

pub returns-clause-step : goal.returns-clause-step
returns-clause-step g c =
    let o = option_copied c.args.owner in
    rw c.pointer_in.ensures (shared_made c.self.inside.slots
    (state_is c.self.view_is) o c.reserve_two.ensures.state c.make_reserved-shared.ensures
    (ap data_in c.reference_to-content.ensures) c.make_reserved-reference.ensures c.in-Ok.ensures.known
    c.reserve.ensures.same (c.list.ensures o c.in-Ok.ensures.ok))

pub invariant_of-self-inside-2 : goal.invariant_of-self-inside-2
invariant_of-self-inside-2 g c =
    let o = option_copied c.args.owner in
    kept c.args.self.now _ _ (shared_made c.self.inside.slots (state_is c.self.view_is) o
    c.reserve_two.ensures.state c.make_reserved-shared.ensures
    (ap data_in c.reference_to-content.ensures)
    c.make_reserved-reference.ensures c.in-Ok.ensures.known c.reserve.ensures.same
    (c.list.ensures o c.in-Ok.ensures.ok))
