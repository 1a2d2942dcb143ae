use Rattle.generational_box.proofs.{arith, both, change, CloneOwner, counted_up, counted_within, inl}
use Rattle.generational_box.proofs.{kept, nat_tests, no_names, Owned}
use Rattle.generational_box.proofs.unsync.StoreAnyStorage.clone_owner.Goals as goal

pub returns-in-None : goal.returns-in-None
returns-in-None g c = inl (no_names, tt, grind (arith, nat_tests))

pub returns-then-ticket : goal.returns-then-ticket
returns-then-ticket g c = inl (no_names, tt, grind (arith, nat_tests))

pub count_up-requires : goal.count_up-requires
count_up-requires g c =
    let within = counted_within c.self.invariant _ _ _ c.in-Some.ensures.«record» in
    rw c.in-Some.ensures.position (omega (arith, within))

pub invariant_of-self : goal.invariant_of-self
invariant_of-self g c =
    rw (c.count_up.ensures, c.in-Some.ensures.position, c.in-Some.ensures.key)
    (counted_up c.self.invariant c.args.owner.now.key)

pub returns : goal.returns
unfolding change
returns g c =
    let counted = rw (c.in-Some.ensures.position, c.in-Some.ensures.key) at c.count_up.ensures in
    inl (no_names, tt, grind (arith, nat_tests))

pub invariant_of-self-inside-2 : goal.invariant_of-self-inside-2
unfolding change
invariant_of-self-inside-2 g c =
    let counted = rw (c.in-Some.ensures.position, c.in-Some.ensures.key) at c.count_up.ensures in
    kept c.args.self.now (CloneOwner c.args.owner.now)
    (Owned (record { store = c.self.inside.number; key = c.args.owner.now.key }))
    (inl (no_names, tt, grind (arith, nat_tests)))

pub same-self : goal.same-self
same-self g c = both (λ s b. record c.self.inside { sound = s; bounded = b })

pub same-self-then-ticket : goal.same-self-then-ticket
same-self-then-ticket g c = both (λ s b. record c.self.inside { sound = s; bounded = b })
