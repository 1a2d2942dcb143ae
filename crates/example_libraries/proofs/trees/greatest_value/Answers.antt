use Rattle.example_libraries.proofs.{ap, is_some, map-id, shown_too, subst, sym, times, YieldsList-end}
use Rattle.example_libraries.proofs.{YieldsList-from_first, ◌<◌, ◌∙◌, ◌≤◌}
use Rattle.example_libraries.proofs.trees.greatest_value.Goals as goal

pub returns : goal.returns
returns g c n v shown =
    let all = YieldsList-end (YieldsList-from_first (λ node. node) (λ rest. rest) _
    c.into_iter-node-iterator.ensures.into_iter_gives)
    c.over.yielded _ c.over.yielded_by _ _ c.in-None.is c.next.ensures.steps in
    shown_too c.args.tree.now (λ value. value ≤ c.over.greatest) n c.over.yielded
    (subst (λ xs. 0 < times n xs) (sym all.0 ∙ map-id c.over.yielded)
    ((c.nodes-node-items.ensures.all.live n).1 (ap is_some shown))) c.over.invariant v shown
