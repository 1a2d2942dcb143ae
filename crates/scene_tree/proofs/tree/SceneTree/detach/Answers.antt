use Rattle.scene_tree.proofs.{alike, freed_others, kept_detached, noted_left, told_live, ◌∙◌, told_in}
use Rattle.scene_tree.proofs.tree.SceneTree.detach.Goals as goal

pub detach-requires-clause-alike : goal.detach-requires-clause-alike
detach-requires-clause-alike g c = alike c.self.invariant.0 (g.met.S.AnyStorage.sound _) c.args.node
    (told_live c.args.node c.self.view_is c.is_alive.ensures c.if-not-is_alive.false)

pub invariant_of-self : goal.invariant_of-self
invariant_of-self g c = (
  kept_detached c.self.invariant.0 (g.met.S.AnyStorage.sound _) _ c.args.node
      (told_live c.args.node c.self.view_is c.is_alive.ensures c.if-not-is_alive.false) c.detach.ensures.detached,
  c.detach.ensures.linked,
  noted_left c.self.invariant.2 c.detach.ensures.noted (λ n now. now),
  c.detach.ensures.number ∙ c.self.invariant.3,
)

pub returns-clause-others : goal.returns-clause-others
returns-clause-others g c =
    let live = told_live c.args.node c.self.view_is c.is_alive.ensures c.if-not-is_alive.false in
    let sound = g.met.S.AnyStorage.sound in rw (← c.self.view_is)
    (freed_others (told_in c.self.inside.sites) (sound _) c.self.invariant.0 c.args.node live c.detach.ensures.detached)
