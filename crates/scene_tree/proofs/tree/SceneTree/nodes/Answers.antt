use Rattle.scene_tree.proofs.{all_met, AreAll, live_count, false, length, met, met_count, subst, sym, TreeState, [], ◌∙◌, ◌≡◌}
use Rattle.scene_tree.proofs.tree.SceneTree.nodes.Goals as goal

pub returns-clause-all : goal.returns-clause-all
returns-clause-all g c =
    let links = c.self.inside.links.items in
    subst (λ (t : TreeState _). AreAll t (met (g.S.AnyStorage.state c.self.inside.store) false links))
    c.self.view_is (all_met (g.met.S.AnyStorage.sound _) links c.self.invariant.0 c.self.invariant.2 _)

pub returns-clause-count : goal.returns-clause-count
returns-clause-count g c = subst (λ (t : TreeState _). length (met (g.S.AnyStorage.state c.self.inside.store)
    false c.self.inside.links.items) ≡ live_count t) c.self.view_is
    (met_count (g.met.S.AnyStorage.sound _) c.self.inside.links.items c.self.invariant.0 c.self.invariant.2 [])

pub invariant_of-result : goal.invariant_of-result
invariant_of-result g c = c.len.ensures
    ∙ sym (met_count (g.met.S.AnyStorage.sound _) c.self.inside.links.items c.self.invariant.0
    c.self.invariant.2 [])
