use Rattle.example_libraries.proofs.{holds_all, live, nat_eq, place_from_lookup, YieldsList-end}
use Rattle.example_libraries.proofs.{YieldsList-from_first, ◌∙◌, ◌≤◌}
use Rattle.example_libraries.proofs.sessions.latest_use.Goals as goal

pub returns : goal.returns
returns g c id s is =
    let all = YieldsList-end (YieldsList-from_first (λ item. (item.0.now, live item.1.now)) (λ rest. rest) _
    c.into_iter-session-iterator.ensures.into_iter_gives)
    c.walk.yielded _ c.walk.yielded_by _ _ c.in-None.is c.next.ensures.steps in
    let at = place_from_lookup (nat_eq id) _ s is in
    holds_all (λ p. (p.0.now, live p.1.now)) (λ x. x.1.used_at ≤ c.walk.latest) c.walk.yielded _
    (all.0 ∙ c.sessions-session-items.ensures) c.walk.invariant at.0 (at.1, s) at.2
