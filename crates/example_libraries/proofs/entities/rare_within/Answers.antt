use Rattle.example_libraries.proofs.{arith, each_more, holds_all, YieldsList-end, YieldsList-from_first, ◌≤◌}
use Rattle.example_libraries.proofs.entities.rare_within.Goals as goal

pub returns : goal.returns
returns g c _ e limit used sees has =
    let all = YieldsList-end (YieldsList-from_first (λ item. (item.0, item.1.now, item.2.now)) (λ rest. rest) _
    c.into_iter-limit-iterator.ensures.into_iter_gives)
    c.walk.yielded _ c.walk.yielded_by _ _ c.in-None.is c.next.ensures.steps in
    let at = c.join_with-limit-items.ensures.every e limit used sees has in
    holds_all (λ p. (p.0, p.1.now, p.2.now)) (λ x. x.2 ≤ x.1) c.walk.yielded _ all.0 c.walk.invariant at.0
    (at.1, limit, used) at.2

pub walk-preserved : goal.walk-preserved
walk-preserved g c = each_more (λ p. p.2.now ≤ p.1.now) c.walk.yielded _ c.walk.invariant
    (omega (arith, c.if-used-limit.false))
