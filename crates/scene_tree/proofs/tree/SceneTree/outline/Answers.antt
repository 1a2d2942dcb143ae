use Rattle.scene_tree.proofs.{outline_from, told_live, ◌∙◌, told_in}
use Rattle.scene_tree.proofs.tree.SceneTree.outline.Goals as goal

pub returns-clause-outline : goal.returns-clause-outline
returns-clause-outline g c =
    let live = told_live c.args.node c.self.view_is c.is_alive.ensures c.if-not-is_alive.false in
    rw (← c.self.view_is) (c.new.ensures
    ∙ outline_from (g.met.S.AnyStorage.sound _) c.self.invariant.0 (told_in c.self.inside.sites) c.args.limit c.args.node live)
