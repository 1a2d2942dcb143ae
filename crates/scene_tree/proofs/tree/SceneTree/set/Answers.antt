use Rattle.scene_tree.proofs.{ap, is_some, live_family, meets_given, meets_number, pointer_in, quiet_sees, rules, told_in}
use Rattle.scene_tree.proofs.{same_id_sees, set_count, set_others, set_shows, set_still, sym, told_live, ◌∙◌}
use Rattle.scene_tree.proofs.tree.SceneTree.set.Goals as goal

pub replace_value-requires : goal.replace_value-requires
replace_value-requires g c =
    quiet_sees _ c.self.invariant.0.simple.unborrowed c.pointer_to.result (g.met.S.AnyStorage.sound _)
    ∙ (ap is_some (same_id_sees _ c.pointer_to.result (pointer_in c.args.node) c.pointer_to.ensures)
    ∙ told_live c.args.node c.self.view_is c.is_alive.ensures c.if-not-is_alive.false)

pub invariant_of-self : goal.invariant_of-self
invariant_of-self g c = set_still (g.met.S.AnyStorage.sound _) c.args.node c.pointer_to.result c.pointer_to.ensures _ _
    c.replace_value.ensures c.self.invariant

pub returns : goal.returns
returns g c =
    let live = told_live c.args.node c.self.view_is c.is_alive.ensures c.if-not-is_alive.false in
    let m = c.replace_value.ensures in
    let shows = set_shows (g.met.S.AnyStorage.sound _) c.args.node c.pointer_to.result c.pointer_to.ensures _ _ m in
    let number = meets_number _ _ _ _ m in
    rw (← c.self.view_is) (record {
      shown = shows.1;
      family = live_family (record { state = _; families = _; sites = (told_in c.self.inside.sites) }) c.args.node (ap is_some shows.1) ∙ sym (live_family (record { state = _; families = _; sites = (told_in c.self.inside.sites) }) c.args.node live);
      count = set_count _ _ _ m;
      others = set_others (g.met.S.AnyStorage.sound _) c.args.node c.pointer_to.result c.pointer_to.ensures _ _ m
          c.self.invariant.0.simple _ _;
      kept = λ n. meets_given _ _ _ _ m _;
      tells = search rules;
      stale = search rules;
      told = search rules;
      back = search rules;
      refused = search rules;
    })
