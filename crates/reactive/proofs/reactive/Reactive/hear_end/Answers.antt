use Rattle.reactive.proofs.{ap, effect_at, effect_of, kept_flagged, listened_end, none-some, refl, row_is, set, sym, watched_low, ◌∙◌}
use Rattle.std.proofs.lemmas.Option.{slice_get_read}
use Rattle.reactive.proofs.reactive.Reactive.hear_end.Goals as goal

pub invariant_of-self-2 : goal.invariant_of-self-2
invariant_of-self-2 g c =
    let watched = rw (← c.self.view_is) at c.requires.watched in
    record {
      kept = kept_flagged g.T.Value.is_same _ _ _ c.self.invariant.kept c.args.slot c.args.key watched c.flag.new.self _
          (λ f is. absurd (none-some f (sym c.in_ok-hear_end.ensures.ended ∙ is)))
          c.flag.ensures.here c.flag.ensures.others c.flag.ensures.flagged c.flag.ensures.kept;
      blamed = c.self.invariant.blamed;
    }

pub returns-clause-heard : goal.returns-clause-heard
returns-clause-heard g c =
    let rows = c.self.inside.effects.rows.items in
    let watched = rw (← c.self.view_is) at c.requires.watched in
    let low = watched_low rows c.args.slot c.args.key watched in
    let old = effect_of (effect_at rows c.args.slot) c.args.key watched in
    let row = row_is rows c.args.slot _ old.0 low
    (slice_get_read rows _ c.args.slot c.index_mut.result.now refl low c.index_mut.ensures.value) old.1 in
    let ended = rw (← c.self.view_is) at c.requires.ended in (
      _,
      c.in_ok-hear_end.ensures.told old.0 row,
      rw (← c.self.view_is) (listened_end g.T.Value.is_same _ _ _ c.self.invariant.kept c.args.slot c.args.key watched old.0 old.1
          old.2 _ ended (ap (set rows c.args.slot) c.in_ok-hear_end.ensures.ended)),
    )
