use Rattle.scene_tree.proofs.{arith, below_within, counts, families, family_in, get_or, length, length-map, list_short}
use Rattle.scene_tree.proofs.{listed_below, part_more, refl, rules, slice_get-get_or, slot_in, ◌<◌}
use Rattle.scene_tree.proofs.links.gather.Goals as goal

pub push_children-requires-clause-within : goal.push_children-requires-clause-within
push_children-requires-clause-within g c n at =
    let links = c.args.links.now.items in
    let len = length-map links (family_in links) in
    let below = below_within _ c.requires.forest c.args.top _ _ c.loop-next.invariant
    (omega (arith, len, c.requires.within)) (slot_in n) (listed_below (families links) c.requires.forest c.args.top _ _
    c.loop-next.invariant (slot_in n) (counts (slot_in n) c.loop-next.list.items c.loop-next.next n at refl)) in
    omega (arith, below, len)

pub loop-next-smaller : goal.loop-next-smaller
loop-next-smaller g c = grind (arith, length-map, list_short)

pub loop-next-preserved : goal.loop-next-preserved
loop-next-preserved g c =
    let list = c.loop-next.list.items in
    let lt : c.loop-next.next < length list = search (rules, arith) in
    let n = get_or list c.loop-next.next c.args.top in
    part_more _ c.requires.forest c.args.top _ _ _ n c.args.top c.loop-next.invariant lt refl
    (c.in_ok-push_children.ensures n (slice_get-get_or list c.loop-next.next c.args.top lt))
