-- A value that is moved out of the store.
use Rattle.example_callers.proofs.{either, ended, IfSome, leaves, left_still, None, Ok, Option, reached_boxed}
use Rattle.example_callers.proofs.{refl, seen_reached, Some, sym, taken_seen, ◌∙◌, ◌≡◌}
use Rattle.example_callers.proofs.leaving.move_out.Goals as goal

-- what follows of the value that was returned, if one was
each : {A : Type 0} {P : A → Type 0} (r : Option A) → ((a : A) → r ≡ Some a → P a) → IfSome r P
each None all = tt
each (Some a) all = all a refl

pub returns-clause-seen : goal.returns-clause-seen
returns-clause-seen g c =
    each c.take.result (λ v is. taken_seen _ _ v (sym c.take.ensures.value ∙ is))

pub returns-clause-ended : goal.returns-clause-ended
returns-clause-ended g c = each c.take.result (λ v is.
    let to = seen_reached _ _ v (taken_seen _ _ v (sym c.take.ensures.value ∙ is)) in
    let boxed = reached_boxed _ _ to.0 (g.met.S.AnyStorage.sound _) to.1 in
    ended _ {U = Unit {0}} (Ok tt) (rw is at c.take.ensures.ended) boxed.0 boxed.1)

pub returns-clause-others : goal.returns-clause-others
returns-clause-others g c b other =
    either c.take.result c.take.ensures.ended c.take.ensures.none
    (λ v done. leaves _ _ _ _ (g.met.S.AnyStorage.sound _) done b other tt) (left_still b)
