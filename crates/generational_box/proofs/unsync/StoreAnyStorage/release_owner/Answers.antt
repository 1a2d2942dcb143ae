use Rattle.generational_box.proofs.{arith, both, change, counted_down, counted_remove, Done, hindrance_to}
use Rattle.generational_box.proofs.{inl, kept, last_refused, nat_tests, no_names, record_held, ReleaseOwner}
use Rattle.generational_box.proofs.{sound_linked}
use Rattle.generational_box.proofs.unsync.StoreAnyStorage.release_owner.Goals as goal

pub returns-in-None-clause-step : goal.returns-in-None-clause-step
returns-in-None-clause-step g c = inl (no_names, tt, grind (arith, nat_tests))

pub invariant_of-self : goal.invariant_of-self
invariant_of-self g c =
    rw (c.count_down.ensures, c.in-Some.ensures.position, c.in-Some.ensures.key)
    (counted_down c.self.invariant c.args.owner.key
    (rw (record_held _ _ c.args.owner _ c.in-Some.ensures.«record»)
    (omega (arith, c.count.ensures, c.if-count-gt1.true))))

pub returns-then-count-gt1-clause-step : goal.returns-then-count-gt1-clause-step
unfolding change
returns-then-count-gt1-clause-step g c =
    let counted = rw (c.in-Some.ensures.position, c.in-Some.ensures.key) at c.count_down.ensures in
    inl (no_names, tt, grind (arith, nat_tests))

pub end_all-requires-clause-linked : goal.end_all-requires-clause-linked
end_all-requires-clause-linked g c = sound_linked _ c.self.inside.sound

pub returns-in-Err-clause-step : goal.returns-in-Err-clause-step
unfolding hindrance_to
returns-in-Err-clause-step g c =
    rw (← c.self.view_is, c.in-Err.ensures.1) (last_refused _ c.args.owner _ _ c.in-Err.refused
    c.in-Some.ensures.«record» (omega (arith, c.count.ensures, c.if-count-gt1.false))
    c.boxes.ensures c.in-Err.ensures.0)

pub invariant_of-self-2 : goal.invariant_of-self-2
invariant_of-self-2 g c =
    rw (c.remove.ensures, c.in-Some.ensures.position, c.in-Some.ensures.key)
    (counted_remove c.self.invariant c.args.owner.key)

pub returns-clause-step : goal.returns-clause-step
unfolding hindrance_to
returns-clause-step g c =
    let removed = rw (c.in-Some.ensures.position, c.in-Some.ensures.key) at c.remove.ensures in
    inl (no_names, tt, grind (arith, nat_tests))

pub invariant_of-self-inside-then-count-gt1 : goal.invariant_of-self-inside-then-count-gt1
unfolding change
invariant_of-self-inside-then-count-gt1 g c =
    let counted = rw (c.in-Some.ensures.position, c.in-Some.ensures.key) at c.count_down.ensures in
    kept c.args.self.now (ReleaseOwner c.args.owner) Done (inl (no_names, tt, grind (arith, nat_tests)))

pub invariant_of-self-inside-2 : goal.invariant_of-self-inside-2
unfolding hindrance_to
invariant_of-self-inside-2 g c =
    let removed = rw (c.in-Some.ensures.position, c.in-Some.ensures.key) at c.remove.ensures in
    kept c.args.self.now (ReleaseOwner c.args.owner) Done (inl (no_names, tt, grind (arith, nat_tests)))

pub same-self : goal.same-self
same-self g c = both (λ s b. record c.self.inside { sound = s; bounded = b })
