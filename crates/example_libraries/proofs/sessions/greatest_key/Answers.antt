use Rattle.example_libraries.proofs.{eqb-true, holds_all, nat_eq, place_from_lookup, subst, sym}
use Rattle.example_libraries.proofs.{YieldsList-end, YieldsList-from_first, ◌∙◌, ◌≤◌}
use Rattle.example_libraries.proofs.sessions.greatest_key.Goals as goal

pub returns : goal.returns
returns c key e is =
    let all = YieldsList-end (YieldsList-from_first (λ item. (item.0.now, item.1)) (λ rest. rest) _
    c.into_iter-key-iterator.ensures.into_iter_gives)
    c.walk.yielded _ c.walk.yielded_by _ _ c.in-None.is c.next.ensures.steps in
    let at = place_from_lookup (nat_eq key) _ e is in
    subst (λ n. n ≤ c.walk.greatest) (sym (eqb-true key at.1 at.3))
    (holds_all (λ p. (p.0.now, p.1)) (λ x. x.0 ≤ c.walk.greatest) c.walk.yielded _
    (all.0 ∙ c.entries-key-items.ensures) c.walk.invariant at.0 (at.1, e) at.2)
