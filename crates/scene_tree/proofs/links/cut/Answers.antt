use Rattle.scene_tree.proofs.{arith, below_within, families, family_in, length-map, listed_below, part_whole}
use Rattle.scene_tree.proofs.links.cut.Goals as goal

pub clear_all-requires-clause-within : goal.clear_all-requires-clause-within
clear_all-requires-clause-within g c s some =
    let fs = families c.args.links.now.items in
    let level = part_whole fs c.requires.forest c.args.top _ c.in_ok-list.ensures in
    let all = length-map c.args.links.now.items (family_in c.args.links.now.items) in
    let left = length-map c.detach.new.links.items (family_in c.detach.new.links.items) in
    let lt = below_within fs c.requires.forest c.args.top _ _ level (omega (arith, c.requires.within, all)) s
    (listed_below fs c.requires.forest c.args.top _ _ level s some) in
    omega (arith, lt, all, left, c.detach.ensures.detached.long)
