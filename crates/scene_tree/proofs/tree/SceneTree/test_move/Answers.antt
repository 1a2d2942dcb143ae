use Rattle.scene_tree.proofs.{arith, below_live, below_under, inl, inr, IsBelow, live_slot, none-some, rules, sym, told_live, told_in}
use Rattle.scene_tree.proofs.{true≢false, under_at, under_below, ◌∙◌}
use Rattle.scene_tree.proofs.tree.SceneTree.test_move.Goals as goal

pub returns-then-not-is_alive-2-clause-fails : goal.returns-then-not-is_alive-2-clause-fails
returns-then-not-is_alive-2-clause-fails g c = record {
  gone = search rules;
  stale = search rules;
  cycle = λ live below. grind (arith, true≢false, below_live);
  root = λ may none. absurd (none-some _ (sym none));
  why = search rules;
}

pub is_under-requires-clause-within : goal.is_under-requires-clause-within
is_under-requires-clause-within g c =
    let lives = told_live c.args.parent c.self.view_is c.is_alive-2.ensures c.if-not-is_alive-2.false in
    let lt = live_slot _ (g.met.S.AnyStorage.sound _) c.self.invariant.0 c.args.parent lives in
    omega (arith, lt, c.slot_of.ensures)

pub returns-then-is_under-clause-fails : goal.returns-then-is_under-clause-fails
returns-then-is_under-clause-fails g c =
    let live = told_live c.args.node c.self.view_is c.is_alive.ensures c.if-not-is_alive.false in
    let lives = told_live c.args.parent c.self.view_is c.is_alive-2.ensures c.if-not-is_alive-2.false in
    let under = c.is_under.ensures.0 c.if-is_under.true in
    rw (← c.self.view_is) (record {
      gone = search rules;
      stale = search rules;
      cycle = search rules;
      root = λ may none. absurd (none-some _ (sym none));
      why = inr (inr (inl (
        under.0,
        under_below (g.met.S.AnyStorage.sound _) c.self.invariant.0 (told_in c.self.inside.sites) c.args.node
            live under.0 c.args.parent lives (under_at _ under.0 c.slot_of-2.ensures c.slot_of.ensures under.1),
      )));
    })

pub returns : goal.returns
returns g c =
    let live = told_live c.args.node c.self.view_is c.is_alive.ensures c.if-not-is_alive.false in
    let lives = told_live c.args.parent c.self.view_is c.is_alive-2.ensures c.if-not-is_alive-2.false in
    rw (← c.self.view_is) (
    let apart = λ (below : IsBelow (record { state = _; families = _; sites = told_in c.self.inside.sites }) c.args.node c.args.parent). true≢false (sym (c.is_under.ensures.1 (
      below.0,
      under_at _ below.0 (sym c.slot_of-2.ensures) (sym c.slot_of.ensures) (below_under (g.met.S.AnyStorage.sound _)
          c.self.invariant.0 (told_in c.self.inside.sites) c.args.node live below.0 c.args.parent below.1).1,
    )) ∙ c.if-is_under.false) in record {
      may = record { node = live; parent = lives; apart = apart };
      fails = record {
        gone = search rules;
        stale = search rules;
        cycle = λ _ below. absurd (apart below);
        root = λ _ none. absurd (none-some _ (sym none));
        why = search rules;
      };
    })
