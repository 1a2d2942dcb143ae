use Rattle.scene_tree.proofs.{alike, among, arith, children_at, families, slot_in, told_live}
use Rattle.scene_tree.proofs.tree.SceneTree.next_sibling.Goals as goal

pub sides_of-requires-clause-among : goal.sides_of-requires-clause-among
sides_of-requires-clause-among g c = λ up is.
    let live = told_live c.args.node c.self.view_is c.is_alive.ensures c.if-not-is_alive.false in
    let once = c.self.invariant.0.forest.once (slot_in c.args.node) up is in
    among c.args.node (children_at (families c.self.inside.links.items) up) (omega (arith, once))
    (alike c.self.invariant.0 (g.met.S.AnyStorage.sound _) c.args.node live up)
