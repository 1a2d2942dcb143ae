use Rattle.scene_tree.proofs.{ap, children_at, map-id, refl, same_Some, slice_get_read, slot_in, sym, YieldsList-end}
use Rattle.scene_tree.proofs.{YieldsList-from_first, ◌++◌, ◌∙◌}
use Rattle.scene_tree.proofs.links.push_children.Goals as goal

pub returns : goal.returns
returns g c n at =
    let list = c.args.list.now.items in
    let same = same_Some _ n (sym (slice_get_read list _ _ c.index-node.result.now refl c.requires.listed
    c.index-node.ensures) ∙ at) in
    let all = YieldsList-end (YieldsList-from_first (λ node. node) (λ rest. rest) _
    c.into_iter-child-iterator.ensures.into_iter_gives)
    c.loop-child.yielded _ c.loop-child.yielded_by _ _ c.in-None.is c.next.ensures.steps in
    c.loop-child.invariant ∙ ap (λ xs. list ++ xs) (sym (sym all.0 ∙ map-id c.loop-child.yielded)
    ∙ (c.new-child-items.ensures ∙ ap (children_at _) (c.slot_of.ensures ∙ ap slot_in same)))
