use Rattle.scene_tree.proofs.{ancestors_of, arith, family_in, length-map, live_slot, next_within, told_live, told_in}
use Rattle.scene_tree.proofs.tree.SceneTree.ancestors.Goals as goal

pub new-requires-clause-within : goal.new-requires-clause-within
new-requires-clause-within g c = grind (arith, next_within)

pub returns-clause-ancestors : goal.returns-clause-ancestors
returns-clause-ancestors g c =
    let sound = g.met.S.AnyStorage.sound in
    let live = told_live c.args.node c.self.view_is c.is_alive.ensures c.if-not-is_alive.false in
    let long = length-map c.self.inside.links.items (family_in c.self.inside.links.items) in
    rw (← c.self.view_is, c.new.ensures, c.parent_at.ensures, c.slot_of.ensures) (ancestors_of (sound _) c.self.invariant.0 (told_in c.self.inside.sites)
    c.args.node live (omega (arith, live_slot _ (sound _) c.self.invariant.0 c.args.node live, long)))
