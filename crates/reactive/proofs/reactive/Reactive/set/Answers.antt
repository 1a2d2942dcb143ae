use Rattle.reactive.proofs.{GraphState, kept_reset, None, refl, reset_unaffected, Some, whole_cleared}
use Rattle.reactive.proofs.reactive.Reactive.set.Goals as goal

pub invariant_of-self : goal.invariant_of-self
invariant_of-self g c = whole_cleared _ _ _ _ (kept_reset c.reset.result _ _ _ _ _ _ c.args.key None (Some c.args.value) c.reset.ensures.put
    c.self.invariant.kept refl c.reset.ensures.dirtied c.reset.ensures.dirty c.reset.ensures.simple c.reset.ensures.forgotten c.reset.ensures.refused (λ v is. refl))
    c.clear.ensures

pub returns-in-Ok-false-clause-unaffected : goal.returns-in-Ok-false-clause-unaffected
returns-in-Ok-false-clause-unaffected g c =
    let new : GraphState _ _ = record {
      state = g.S.AnyStorage.state c.reset.new.self.store;
      revision = c.reset.new.self.revision;
      known = c.reset.new.self.links.marks.known.items;
      effects = c.self.inside.effects.rows.items;
    } in
    rw (← c.self.view_is) (reset_unaffected c.reset.result _ new _ _ _ c.args.key None (Some c.args.value) c.self.invariant.kept
    (g.met.S.AnyStorage.sound _) c.reset.ensures.put c.reset.ensures.spared c.reset.ensures.refused)
