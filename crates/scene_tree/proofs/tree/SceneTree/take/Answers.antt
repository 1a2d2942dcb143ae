use Rattle.scene_tree.proofs.{alike, ap, arith, cases_lt, cut_others, cut_parent, kept_cut, length, list_live, told_in}
use Rattle.scene_tree.proofs.{noted_lost, rules, slice_get, subtree, sym, told_at, told_live, ⊎_elim, ◌∙◌}
use Rattle.scene_tree.proofs.tree.SceneTree.take.Goals as goal

pub cut-requires-clause-alike : goal.cut-requires-clause-alike
cut-requires-clause-alike g c = alike c.self.invariant.0 (g.met.S.AnyStorage.sound _) c.args.node
    (told_live c.args.node c.self.view_is c.is_alive.ensures c.if-not-is_alive.false)

pub take_first-requires : goal.take_first-requires
take_first-requires g c =
    let sound = g.met.S.AnyStorage.sound in
    let live = told_live c.args.node c.self.view_is c.is_alive.ensures c.if-not-is_alive.false in
    let level = c.in-Ok.ensures.cut.level in
    let some = ap length level in
    let lives = list_live (sound _) c.self.invariant.0 c.args.node live _ level in
    let once = (subtree (sound _) c.self.invariant.0 (told_in c.self.inside.sites) c.args.node live _ level).once in search (rules, arith)

pub invariant_of-self-2 : goal.invariant_of-self-2
invariant_of-self-2 g c = (
  kept_cut (g.met.S.AnyStorage.sound _) c.self.invariant.0 c.args.node
      (told_live c.args.node c.self.view_is c.is_alive.ensures c.if-not-is_alive.false) _ c.in-Ok.ensures.cut
      c.take_first.ensures.lost,
  c.cut.ensures.linked,
  noted_lost c.self.invariant.2 c.take_first.ensures.lost c.cut.ensures.noted,
  c.cut.ensures.number ∙ (c.self.invariant.3 ∙ sym c.take_first.ensures.lost.number),
)

pub returns : goal.returns
returns g c =
    let sound = g.met.S.AnyStorage.sound in
    let live = told_live c.args.node c.self.view_is c.is_alive.ensures c.if-not-is_alive.false in
    let cut = c.in-Ok.ensures.cut in
    let lost = c.take_first.ensures.lost in
    let whole = subtree (sound _) c.self.invariant.0 (told_in c.self.inside.sites) c.args.node live _ cut.level in
    rw (← c.self.view_is) (record {
      taken = c.take_first.ensures.value c.args.node (ap (λ xs. slice_get xs 0) cut.level);
      gone = λ n below. lost.ended n ((whole.below n).1 below);
      count = (c.in-Ok.list.items, whole, lost.count);
      lost = cut_parent (sound _) c.self.invariant.0 c.args.node live _ cut lost (told_in c.self.inside.sites);
      others = λ n apart. cut_others (sound _) c.self.invariant.0 c.args.node live _ cut lost (told_in c.self.inside.sites) n
          (⊎_elim (λ some. absurd (apart ((whole.below n).0 some))) (λ none. omega (arith, none)) (cases_lt 0 _));
      kept = search rules;
      tells = λ f. ap (λ n. told_at n (told_in c.self.inside.sites) f) lost.number;
      stale = search rules;
      short = search rules;
      refused = search rules;
    })
