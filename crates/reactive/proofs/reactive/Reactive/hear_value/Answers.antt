use Rattle.reactive.proofs.{ap, effect_at, effect_of, kept_value, known_shows, listened_value, refl, row_is, set, sym, watched_low, ◌∙◌}
use Rattle.std.proofs.lemmas.Option.{slice_get_read}
use Rattle.reactive.proofs.reactive.Reactive.hear_value.Goals as goal

pub invariant_of-self-2 : goal.invariant_of-self-2
invariant_of-self-2 g c =
    let rows = c.self.inside.effects.rows.items in
    let watched = rw (← c.self.view_is) at c.requires.watched in
    let low = watched_low rows c.args.slot c.args.key watched in
    let old = effect_of (effect_at rows c.args.slot) c.args.key watched in
    let row = row_is rows c.args.slot _ old.0 low
    (slice_get_read rows _ c.args.slot c.index_mut.result.now refl low c.index_mut.ensures.value) old.1 in
    let h = c.in_ok-hear_value.ensures.heard old.0 row in
    let shows = known_shows _ _ c.in-Some.value.now (sym c.in-Some.ensures) in
    record {
      kept = rw h.2 (kept_value g.T.Value.is_same _ _ _ c.self.invariant.kept c.args.slot c.args.key watched c.clean.new.self h.0
          c.in-Some.value.now (h.5 ∙ old.2) h.6 shows c.clean.ensures.others c.clean.ensures.flags (c.clean.ensures.more c.args.slot));
      blamed = c.self.invariant.blamed;
    }

pub returns-clause-heard : goal.returns-clause-heard
returns-clause-heard g c =
    let rows = c.self.inside.effects.rows.items in
    let watched = rw (← c.self.view_is) at c.requires.watched in
    let low = watched_low rows c.args.slot c.args.key watched in
    let old = effect_of (effect_at rows c.args.slot) c.args.key watched in
    let row = row_is rows c.args.slot _ old.0 low
    (slice_get_read rows _ c.args.slot c.index_mut.result.now refl low c.index_mut.ensures.value) old.1 in
    let h = c.in_ok-hear_value.ensures.heard old.0 row in
    let shows = known_shows _ _ c.in-Some.value.now (sym c.in-Some.ensures) in (
      h.1,
      h.3,
      rw (← c.self.view_is) (listened_value g.T.Value.is_same _ _ _ c.self.invariant.kept c.args.slot c.args.key watched old.0 old.1
          old.2 _ h.0 c.in-Some.value.now h.1 shows h.4 (ap (set rows c.args.slot) h.2)),
    )
