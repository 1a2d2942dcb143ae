use Rattle.scene_tree.proofs.{arith, live_slot, told_live}
use Rattle.scene_tree.proofs.tree.SceneTree.children_backwards.Goals as goal

pub new-requires-clause-within : goal.new-requires-clause-within
new-requires-clause-within g c =
    let live = told_live c.args.node c.self.view_is c.is_alive.ensures c.if-not-is_alive.false in
    let lt = live_slot _ (g.met.S.AnyStorage.sound _) c.self.invariant.0 c.args.node live in omega (arith, lt, c.slot_of.ensures)
