use Rattle.scene_tree.proofs.{arith, kept_tree, live_slot, told_live, told_in}
use Rattle.scene_tree.proofs.tree.SceneTree.children.Goals as goal

pub new-requires-clause-within : goal.new-requires-clause-within
new-requires-clause-within g c =
    let live = told_live c.args.node c.self.view_is c.is_alive.ensures c.if-not-is_alive.false in
    let lt = live_slot _ (g.met.S.AnyStorage.sound _) c.self.invariant.0 c.args.node live in omega (arith, lt, c.slot_of.ensures)

pub returns-then-not-is_alive-clause-tree : goal.returns-then-not-is_alive-clause-tree
returns-then-not-is_alive-clause-tree g c =
    rw (← c.self.view_is) (kept_tree (g.met.S.AnyStorage.sound _) c.self.invariant.0 (told_in c.self.inside.sites))

pub returns-clause-tree : goal.returns-clause-tree
returns-clause-tree g c =
    rw (← c.self.view_is) (kept_tree (g.met.S.AnyStorage.sound _) c.self.invariant.0 (told_in c.self.inside.sites))
