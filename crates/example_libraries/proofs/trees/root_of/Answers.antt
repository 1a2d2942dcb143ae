use Rattle.example_libraries.proofs.{ap, AreAncestors, IsStepsBelow, last_above, last_more, last_root, length}
use Rattle.example_libraries.proofs.{map-id, parent_of, subst, sym, YieldsList-end, YieldsList-from_first}
use Rattle.example_libraries.proofs.{◌∙◌}
use Rattle.example_libraries.proofs.trees.root_of.Goals as goal

pub up-preserved : goal.up-preserved
up-preserved g c = sym (last_more c.args.node c.in-Some.above c.up.yielded)

pub returns : goal.returns
returns g c =
    let tree = c.args.tree.now in
    let all = YieldsList-end (YieldsList-from_first (λ node. node) (λ rest. rest) _
    c.into_iter-above-iterator.ensures.into_iter_gives)
    c.up.yielded _ c.up.yielded_by _ _ c.in-None.is c.next.ensures.steps in
    let ups = subst (AreAncestors tree c.args.node) (sym all.0 ∙ map-id c.up.yielded)
    c.in_ok-above-items.ensures.ancestors in record {
      root = ap (parent_of tree) c.up.invariant ∙ last_root tree c.args.node c.up.yielded ups;
      above = (
        length c.up.yielded,
        subst (λ root. IsStepsBelow tree root (length c.up.yielded) c.args.node) (sym c.up.invariant)
            (last_above tree c.args.node c.up.yielded ups),
      );
    }
