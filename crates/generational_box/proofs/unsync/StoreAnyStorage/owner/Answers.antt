use Rattle.generational_box.proofs.{arith, counted_new, inl, inr, kept, may_lack, nat_tests, NewOwner}
use Rattle.generational_box.proofs.{no_names, Owned, refl}
use Rattle.generational_box.proofs.unsync.StoreAnyStorage.owner.Goals as goal

pub returns-then-key : goal.returns-then-key
returns-then-key g c = inl (no_names, tt, grind (arith, nat_tests))

pub invariant_of-self : goal.invariant_of-self
invariant_of-self g c = rw c.in-Ok.ensures.ok (counted_new c.self.invariant _ refl refl)

pub returns-in-Ok : goal.returns-in-Ok
returns-in-Ok g c = inl (no_names, tt, grind (arith, nat_tests))

pub returns-in-Err : goal.returns-in-Err
unfolding may_lack
returns-in-Err g c = inr (grind (arith, nat_tests))

pub invariant_of-self-inside : goal.invariant_of-self-inside
invariant_of-self-inside g c =
    kept c.args.self.now NewOwner (Owned (record { store = c.self.inside.number; key = c.self.inside.next }))
    (inl (no_names, tt, grind (arith, nat_tests)))
