use Rattle.scene_tree.proofs.{ap, arith, changed, Link, packed_within, repacked, unpacked_from, ◌∙◌}
use Rattle.scene_tree.proofs.packed.Links.set_node.Goals as goal

pub index_mut-packed-requires : goal.index_mut-packed-requires
index_mut-packed-requires g c =
    let lt = packed_within _ _ _ _ c.args.node.slot c.self.view_is c.requires.within in
    omega (arith, lt, c.self.inside.packed.ok.0, c.slot_of.ensures)

pub returns-clause-items : goal.returns-clause-items
returns-clause-items g c =
    let put = λ (l : Link _). record l { node = c.args.node } in
    rw (← c.self.view_is) (repacked _ _ 0 _ _ c.slot_of.result c.index_mut-packed.result.now _ put
    (omega arith) c.index_mut-packed.ensures.value (grind arith)
    ∙ ap (λ s. changed (unpacked_from c.self.inside.number 0 c.self.inside.packed.items) s put) c.slot_of.ensures)
