use Rattle.scene_tree.proofs.{ap, is_some, live_family, meets_given, meets_number, none-some, pointer_in, quiet_sees, told_in}
use Rattle.scene_tree.proofs.{rules, same_id_sees, set_count, set_others, set_shows, set_still, sym, told_live, true≢false, ◌∙◌}
use Rattle.scene_tree.proofs.tree.SceneTree.update.Goals as goal

pub change_value-requires-clause-free : goal.change_value-requires-clause-free
change_value-requires-clause-free g c =
    quiet_sees _ c.self.invariant.0.simple.unborrowed c.pointer_to.result (g.met.S.AnyStorage.sound _)
    ∙ (ap is_some (same_id_sees _ c.pointer_to.result (pointer_in c.args.node) c.pointer_to.ensures)
    ∙ told_live c.args.node c.self.view_is c.is_alive.ensures c.if-not-is_alive.false)

pub change_value-requires-clause-callable : goal.change_value-requires-clause-callable
change_value-requires-clause-callable g c value sees =
    (rw (← c.self.view_is) at c.requires) value
    (sym (same_id_sees _ c.pointer_to.result (pointer_in c.args.node) c.pointer_to.ensures) ∙ sees)

pub invariant_of-self : goal.invariant_of-self
invariant_of-self g c = set_still (g.met.S.AnyStorage.sound _) c.args.node c.pointer_to.result c.pointer_to.ensures _ _
    c.change_value.ensures.set c.self.invariant

pub returns : goal.returns
returns g c =
    let done = c.change_value.ensures in
    let shows = set_shows (g.met.S.AnyStorage.sound _) c.args.node c.pointer_to.result c.pointer_to.ensures _ _ done.set in
    let number = meets_number _ _ _ _ done.set in
    rw (← c.self.view_is) (record {
      changed = (done.old, done.new, shows.0, done.called, shows.1);
      family = live_family (record { state = _; families = _; sites = (told_in c.self.inside.sites) }) c.args.node (ap is_some shows.1) ∙ sym (live_family (record { state = _; families = _; sites = (told_in c.self.inside.sites) }) c.args.node (ap is_some shows.0));
      count = set_count _ _ _ done.set;
      others = set_others (g.met.S.AnyStorage.sound _) c.args.node c.pointer_to.result c.pointer_to.ensures _ _ done.set
          c.self.invariant.0.simple _ _;
      kept = λ n. meets_given _ _ _ _ done.set _;
      tells = search rules;
      stale = (λ is. absurd (true≢false (sym is)), λ none. absurd (none-some _ (sym none ∙ shows.0)));
      told = search rules;
      refused = search rules;
    })
