use Rattle.reactive.proofs.{ap, effect_at, effect_of, kept_flagged, listened_fault, refl, row_is, same_Some, set, sym, watched_low, ◌∙◌}
use Rattle.std.proofs.lemmas.Option.{slice_get_read}
use Rattle.reactive.proofs.reactive.Reactive.hear_fault.Goals as goal

pub invariant_of-self-2 : goal.invariant_of-self-2
invariant_of-self-2 g c =
    let rows = c.self.inside.effects.rows.items in
    let watched = rw (← c.self.view_is) at c.requires.watched in
    let low = watched_low rows c.args.slot c.args.key watched in
    let old = effect_of (effect_at rows c.args.slot) c.args.key watched in
    let row = row_is rows c.args.slot _ old.0 low
    (slice_get_read rows _ c.args.slot c.index_mut.result.now refl low c.index_mut.ensures.value) old.1 in
    let h = c.in_ok-hear_fault.ensures.heard old.0 row in
    record {
      kept = kept_flagged g.T.Value.is_same _ _ _ c.self.invariant.kept c.args.slot c.args.key watched c.flag.new.self _
          (λ f is. ap (λ x. x.key) (sym (same_Some h.0 f (sym h.2 ∙ is))) ∙ (h.5 ∙ old.2))
          c.flag.ensures.here c.flag.ensures.others c.flag.ensures.flagged c.flag.ensures.kept;
      blamed = c.self.invariant.blamed;
    }

pub returns-clause-heard : goal.returns-clause-heard
returns-clause-heard g c =
    let rows = c.self.inside.effects.rows.items in
    let watched = rw (← c.self.view_is) at c.requires.watched in
    let low = watched_low rows c.args.slot c.args.key watched in
    let old = effect_of (effect_at rows c.args.slot) c.args.key watched in
    let row = row_is rows c.args.slot _ old.0 low
    (slice_get_read rows _ c.args.slot c.index_mut.result.now refl low c.index_mut.ensures.value) old.1 in
    let h = c.in_ok-hear_fault.ensures.heard old.0 row in
    let live = rw (← c.self.view_is) at c.requires.live in
    let true_of = rw (← c.self.view_is) at c.requires.true_of in (
      h.1,
      h.3,
      rw (← c.self.view_is) (listened_fault g.T.Value.is_same _ _ _ c.self.invariant.kept c.args.slot c.args.key watched old.0 old.1
          old.2 _ h.0 c.args.fault h.1 live true_of h.4 (ap (set rows c.args.slot) h.2)),
    )
