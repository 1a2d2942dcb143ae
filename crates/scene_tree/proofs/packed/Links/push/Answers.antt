use Rattle.scene_tree.proofs.{arith, length, length-append, packed_length, packed_room, unpacked_more, ◌∙◌, ◌≡◌}
use Rattle.scene_tree.proofs.packed.Links.push.Goals as goal

pub push_reserved-requires : goal.push_reserved-requires
push_reserved-requires g c =
    let room = packed_room _ _ _ _ c.self.view_is in
    let long = packed_length _ _ _ _ c.self.view_is in
    omega (arith, room, long, c.requires.room, c.self.inside.packed.ok.0)

pub invariant_of-self : goal.invariant_of-self
invariant_of-self g c =
    grind (arith, c.push_reserved.ensures.items, packed_length _ _ _ _ c.self.view_is, c.requires.fits, length-append)

pub returns-clause-items : goal.returns-clause-items
returns-clause-items g c =
    let long = packed_length _ _ _ _ c.self.view_is in
    let at : c.args.node.slot ≡ length c.self.inside.packed.items = omega (arith, long, c.requires.next) in
    rw (c.push_reserved.ensures.items, ← c.self.view_is) (unpacked_more _ _ 0 _ c.args.node.slot _ (omega (arith, at))
    ∙ grind arith)
