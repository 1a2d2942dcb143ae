use Rattle.example_libraries.proofs.{ap, last_in, last_pushed, map-id, sym, YieldsList-end}
use Rattle.example_libraries.proofs.{YieldsList-from_first, ◌∙◌}
use Rattle.example_libraries.proofs.trees.last_child.Goals as goal

pub over-preserved : goal.over-preserved
over-preserved g c = sym (last_pushed c.over.yielded c.in-Some.child)

pub returns : goal.returns
returns g c others child is =
    let all = YieldsList-end (YieldsList-from_first (λ node. node) (λ rest. rest) _
    c.into_iter-child-iterator.ensures.into_iter_gives)
    c.over.yielded _ c.over.yielded_by _ _ c.in-None.is c.next.ensures.steps in
    c.over.invariant ∙ (ap last_in (sym (sym all.0 ∙ map-id c.over.yielded)
    ∙ (c.in_ok-child-items.ensures.children ∙ is)) ∙ last_pushed others child)
