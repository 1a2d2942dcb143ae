use Rattle.scene_tree.proofs.{AreRoots, met, roots_met, subst, TreeState, true}
use Rattle.scene_tree.proofs.tree.SceneTree.roots.Goals as goal

pub returns : goal.returns
returns g c =
    let links = c.self.inside.links.items in
    subst (λ (t : TreeState _). AreRoots t (met (g.S.AnyStorage.state c.self.inside.store) true links))
    c.self.view_is (roots_met (g.met.S.AnyStorage.sound _) links c.self.invariant.0 c.self.invariant.2 _)
