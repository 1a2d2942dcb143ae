use Rattle.scene_tree.proofs.{rooted_in, told_live, told_in}
use Rattle.scene_tree.proofs.tree.SceneTree.depth.Goals as goal

pub returns-clause-depth : goal.returns-clause-depth
returns-clause-depth g c =
    let live = told_live c.args.node c.self.view_is c.is_alive.ensures c.if-not-is_alive.false in
    rw (← c.self.view_is) (rooted_in (g.met.S.AnyStorage.sound _) c.self.invariant.0 (told_in c.self.inside.sites) c.depth_at.result c.args.node live
    (rw c.slot_of.ensures at c.depth_at.ensures))
