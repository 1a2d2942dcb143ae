use Rattle.scene_tree.proofs.{alike, cut_others, cut_parent, kept_cut, list_live, noted_lost, rules, subtree, sym, told_live, ◌∙◌, told_in, ap, told_at}
use Rattle.scene_tree.proofs.tree.SceneTree.remove_subtree.Goals as goal

pub cut-requires-clause-alike : goal.cut-requires-clause-alike
cut-requires-clause-alike g c = alike c.self.invariant.0 (g.met.S.AnyStorage.sound _) c.args.node
    (told_live c.args.node c.self.view_is c.is_alive.ensures c.if-not-is_alive.false)

pub end_all-requires : goal.end_all-requires
end_all-requires g c =
    let sound = g.met.S.AnyStorage.sound in
    let live = told_live c.args.node c.self.view_is c.is_alive.ensures c.if-not-is_alive.false in
    let level = c.in-Ok.ensures.cut.level in
    let lives = list_live (sound _) c.self.invariant.0 c.args.node live _ level in
    let once = (subtree (sound _) c.self.invariant.0 (told_in c.self.inside.sites) c.args.node live _ level).once in search rules

pub invariant_of-self-2 : goal.invariant_of-self-2
invariant_of-self-2 g c = (
  kept_cut (g.met.S.AnyStorage.sound _) c.self.invariant.0 c.args.node
      (told_live c.args.node c.self.view_is c.is_alive.ensures c.if-not-is_alive.false) _ c.in-Ok.ensures.cut
      c.end_all.ensures,
  c.cut.ensures.linked,
  noted_lost c.self.invariant.2 c.end_all.ensures c.cut.ensures.noted,
  c.cut.ensures.number ∙ (c.self.invariant.3 ∙ sym c.end_all.ensures.number),
)

pub returns : goal.returns
returns g c =
    let sound = g.met.S.AnyStorage.sound in
    let live = told_live c.args.node c.self.view_is c.is_alive.ensures c.if-not-is_alive.false in
    let cut = c.in-Ok.ensures.cut in
    let lost = c.end_all.ensures in
    rw (← c.self.view_is) (record {
      subtree = subtree (sound _) c.self.invariant.0 (told_in c.self.inside.sites) c.args.node live _ cut.level;
      gone = lost.ended;
      count = lost.count;
      lost = cut_parent (sound _) c.self.invariant.0 c.args.node live _ cut lost (told_in c.self.inside.sites);
      others = cut_others (sound _) c.self.invariant.0 c.args.node live _ cut lost (told_in c.self.inside.sites);
      kept = search rules;
      tells = λ f. ap (λ n. told_at n (told_in c.self.inside.sites) f) lost.number;
      stale = search rules;
      short = search rules;
      refused = search rules;
    })
