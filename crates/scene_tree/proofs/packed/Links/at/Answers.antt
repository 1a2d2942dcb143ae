use Rattle.scene_tree.proofs.{arith, packed_length, packed_within, unpacked_at, ◌∙◌}
use Rattle.scene_tree.proofs.packed.Links.at.Goals as goal

pub index-packed-requires : goal.index-packed-requires
index-packed-requires g c =
    let lt = packed_within _ _ _ _ c.args.slot c.self.view_is c.requires in
    omega (arith, lt, c.self.inside.packed.ok.0)

pub handle_at-requires : goal.handle_at-requires
handle_at-requires g c =
    let lt = packed_within _ _ _ _ c.args.slot c.self.view_is c.requires in
    grind (arith, lt, c.self.invariant)

pub returns-clause-link : goal.returns-clause-link
returns-clause-link g c =
    let lt = packed_within _ _ _ _ c.args.slot c.self.view_is c.requires in
    rw (← c.self.view_is) (unpacked_at _ _ 0 _ c.args.slot c.args.slot c.index-packed.result.now (omega arith) lt
    c.index-packed.ensures ∙ grind arith)

pub returns-clause-most : goal.returns-clause-most
returns-clause-most g c = omega (arith, packed_length _ _ _ _ c.self.view_is, c.self.invariant)
