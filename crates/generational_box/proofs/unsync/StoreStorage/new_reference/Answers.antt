use Rattle.generational_box.proofs.{ap, arith, by_name, data_in, get-insert_here, inl, inr, kept}
use Rattle.generational_box.proofs.{made_counted, may_lack, name_of_cell, nat_tests, no_names, option_copied}
use Rattle.generational_box.proofs.{reach, reference_made, reference_refused, refusal_to_read, sound_linked}
use Rattle.generational_box.proofs.{state_is, ◌≡◌}
use Rattle.generational_box.proofs.unsync.StoreStorage.new_reference.Goals as goal

pub returns-then-not-knows : goal.returns-then-not-knows
returns-then-not-knows g c = inl (no_names, tt, grind (arith, nat_tests))

pub returns-in_default : goal.returns-in_default
unfolding reach refusal_to_read
returns-in_default g c = inl (no_names, tt, grind (arith, nat_tests))

pub shared-requires : goal.shared-requires
shared-requires g c = sound_linked _ c.self.inside.sound

pub returns-in-Err : goal.returns-in-Err
unfolding reach refusal_to_read
returns-in-Err g c = inl (no_names, tt, grind (arith, nat_tests))

pub returns-in-Err-reserve : goal.returns-in-Err-reserve
returns-in-Err-reserve g c =
    rw (c.reserve.ensures.same, state_is c.self.view_is) (reference_refused c.self.inside.slots
    (state_is c.self.view_is) (option_copied c.args.owner) c.args.inner c.in-Some.ensures c.in-Ok.ensures.ok _
    c.in-Err-reserve.ensures.refused)

pub returns-in-Err-make : goal.returns-in-Err-make
unfolding reach refusal_to_read may_lack
returns-in-Err-make g c = inr (grind (arith, nat_tests))

pub invariant_of-self-2 : goal.invariant_of-self-2
invariant_of-self-2 g c =
    let o = option_copied c.args.owner in
    rw (c.list.ensures o c.in-Ok-reserve.ensures.ok, c.reserve.ensures.same) (made_counted _
    c.self.inside.sound c.self.invariant _ c.in-Ok-make.ensures.ok.fits.ungiven o)

pub created_at-requires : goal.created_at-requires
created_at-requires g c =
    let made = rw (ap data_in c.reference_to-content.ensures) at c.in-Ok-make.ensures.ok in
    rw made.added (grind (arith, get-insert_here, by_name))

pub returns : goal.returns
returns g c =
    let o = option_copied c.args.owner in
    let made = rw (ap data_in c.reference_to-content.ensures) at c.in-Ok-make.ensures.ok in
    let there = get-insert_here by_name c.self.inside.slots.state.cells (name_of_cell c.in-Ok-make.name) in
    let at : c.created_at.result ≡ c.created_at-created_at.result = grind arith in
    rw (c.pointer_in.ensures, at) (reference_made c.self.inside.slots (state_is c.self.view_is) o
    c.args.inner c.in-Some.ensures c.in-Ok.ensures.ok c.created_at-created_at.ensures
    (ap data_in c.reference_to-content.ensures) c.in-Ok-make.ensures.ok c.in-Ok-reserve.ensures.known
    c.reserve.ensures.same (c.list.ensures o c.in-Ok-reserve.ensures.ok))

pub invariant_of-self-inside-2 : goal.invariant_of-self-inside-2
invariant_of-self-inside-2 g c =
    let o = option_copied c.args.owner in let known = c.in-Ok-reserve.ensures in
    kept c.args.self.now _ _ (reference_made c.self.inside.slots (state_is c.self.view_is) o
    c.args.inner
    c.in-Some.ensures c.in-Ok.ensures.ok c.created_at-created_at.ensures
    (ap data_in c.reference_to-content.ensures) c.in-Ok-make.ensures.ok known.known
    c.reserve.ensures.same
    (c.list.ensures o known.ok))
