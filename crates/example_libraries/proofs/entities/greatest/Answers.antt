use Rattle.example_libraries.proofs.{ap, holds_all, is_some, same_Some, slice_get, stands_with, subst, sym}
use Rattle.example_libraries.proofs.{YieldsList-end, YieldsList-from_first, ◌∙◌, ◌≤◌}
use Rattle.example_libraries.proofs.entities.greatest.Goals as goal

pub returns : goal.returns
returns g c e v seen =
    let all = YieldsList-end (YieldsList-from_first (λ item. (item.0, item.1.now)) (λ rest. rest) _
    c.into_iter-element-iterator.ensures.into_iter_gives)
    c.rows.yielded _ c.rows.yielded_by _ _ c.in-None.is c.next.ensures.steps in
    let walk = c.iter-element-items.ensures in
    let at = walk.dense.listed e (ap is_some seen) in
    let there = stands_with _ at.0 at.1 (ap (λ rows. slice_get rows at.0) walk.rows ∙ at.2) in
    let low = holds_all (λ p. (p.0, p.1.now)) (λ x. x.1 ≤ c.rows.most) c.rows.yielded _ all.0
    c.rows.invariant at.0 (at.1, there.0) there.1 in
    let same = same_Some there.0 v (sym (walk.shown at.0 at.1 there.0 there.1)
    ∙ (c.equal_entities_show_the_same.ensures.shown c.args.table.now at.1 e at.3 ∙ seen)) in
    subst (λ n. n ≤ c.rows.most) same low
