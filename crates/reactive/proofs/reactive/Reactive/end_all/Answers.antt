use Rattle.reactive.proofs.{GraphState, kept_lost, lost_unaffected, refl, whole_cleared}
use Rattle.reactive.proofs.reactive.Reactive.end_all.Goals as goal

pub invariant_of-self : goal.invariant_of-self
invariant_of-self g c = whole_cleared _ _ _ _ (kept_lost c.remove_all.result _ _ _ _ _ _ c.args.keys.now c.remove_all.ensures.lost
    c.remove_all.ensures.refused c.remove_all.ensures.forgotten c.self.invariant.kept refl c.remove_all.ensures.dirtied
    c.remove_all.ensures.dirty c.remove_all.ensures.simple c.remove_all.ensures.later)
    c.clear.ensures

pub returns-clause-unaffected : goal.returns-clause-unaffected
returns-clause-unaffected g c =
    let new : GraphState _ _ = record {
      state = g.S.AnyStorage.state c.remove_all.new.self.store;
      revision = c.remove_all.new.self.revision;
      known = c.remove_all.new.self.links.marks.known.items;
      effects = c.self.inside.effects.rows.items;
    } in
    rw (← c.self.view_is) (lost_unaffected c.remove_all.result _ new _ _ _ c.args.keys.now c.self.invariant.kept
    (g.met.S.AnyStorage.sound _) c.remove_all.ensures.lost c.remove_all.ensures.spared c.remove_all.ensures.refused)
