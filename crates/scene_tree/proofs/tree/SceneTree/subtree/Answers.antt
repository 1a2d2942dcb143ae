use Rattle.scene_tree.proofs.{subtree, told_live, told_in}
use Rattle.scene_tree.proofs.tree.SceneTree.subtree.Goals as goal

pub returns-in-Ok-clause-subtree : goal.returns-in-Ok-clause-subtree
returns-in-Ok-clause-subtree g c = rw (← c.self.view_is) (subtree (g.met.S.AnyStorage.sound _) c.self.invariant.0 (told_in c.self.inside.sites)
    c.args.node (told_live c.args.node c.self.view_is c.is_alive.ensures c.if-not-is_alive.false) _ c.in-Ok.ensures)
