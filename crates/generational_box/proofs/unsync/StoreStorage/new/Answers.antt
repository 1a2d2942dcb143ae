use Rattle.generational_box.proofs.{arith, inr, kept, made_counted, may_lack, nat_tests, option_copied}
use Rattle.generational_box.proofs.{state_is, value_made, value_refused}
use Rattle.generational_box.proofs.unsync.StoreStorage.new.Goals as goal

pub returns-in-Err-clause-step : goal.returns-in-Err-clause-step
returns-in-Err-clause-step g c =
    rw (c.reserve.ensures.same, state_is c.self.view_is) (value_refused c.self.inside.slots
    (state_is c.self.view_is) (option_copied c.args.owner) _ _ _ c.in-Err.ensures.refused)

pub returns-in-Err-make-clause-step : goal.returns-in-Err-make-clause-step
unfolding may_lack
returns-in-Err-make-clause-step g c = inr (grind (arith, nat_tests))

pub invariant_of-self-2 : goal.invariant_of-self-2
invariant_of-self-2 g c =
    let o = option_copied c.args.owner in
    rw (c.list.ensures o c.in-Ok.ensures.ok, c.reserve.ensures.same) (made_counted _ c.self.inside.sound
    c.self.invariant _ c.in-Ok-make.ensures.ok.fits.ungiven o)

pub returns-clause-step : goal.returns-clause-step
returns-clause-step g c =
    let o = option_copied c.args.owner in
    rw c.pointer_in.ensures (value_made c.self.inside.slots (state_is c.self.view_is) o
    c.in-Ok-make.ensures.ok c.in-Ok.ensures.known c.reserve.ensures.same
    (c.list.ensures o c.in-Ok.ensures.ok))

pub invariant_of-self-inside-2 : goal.invariant_of-self-inside-2
invariant_of-self-inside-2 g c =
    let o = option_copied c.args.owner in
    kept c.args.self.now _ _ (value_made c.self.inside.slots (state_is c.self.view_is) o
    c.in-Ok-make.ensures.ok c.in-Ok.ensures.known c.reserve.ensures.same
    (c.list.ensures o c.in-Ok.ensures.ok))
