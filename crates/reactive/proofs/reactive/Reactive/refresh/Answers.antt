use Rattle.reactive.proofs.{book, GraphState, is_some, None, Option, refl, refreshed_blames, refreshed_shown, whole_refreshed}
use Rattle.reactive.proofs.{same_plans, Some, still_shown, true, ◌≡◌, ◌≢◌}
use Rattle.reactive.proofs.reactive.Reactive.refresh.Goals as goal

some_is : {A : Type 0} (o : Option A) → o ≢ None → is_some o ≡ true
some_is (Some v) not = refl
some_is None not = absurd (not refl)

pub invariant_of-self : goal.invariant_of-self
invariant_of-self g c =
    let old : GraphState _ _ = record {
      state = g.S.AnyStorage.state c.self.inside.nodes.store;
      revision = c.self.inside.nodes.revision;
      known = c.self.inside.nodes.links.marks.known.items;
      effects = c.self.inside.effects.rows.items;
    } in
    whole_refreshed old _ _ c.refresh.ensures.simple c.refresh.ensures.revision
    (c.refresh.ensures.sound _ c.self.invariant.kept.sound) _ _ _ _ c.self.invariant refl
    (c.refresh.ensures.lasts _ c.self.invariant.kept.sound) c.refresh.ensures.kinds
    (c.refresh.ensures.blamed _ c.self.invariant.kept.sound c.self.invariant.blamed)

pub returns : goal.returns
returns g c =
    let old : GraphState _ _ = record {
      state = g.S.AnyStorage.state c.self.inside.nodes.store;
      revision = c.self.inside.nodes.revision;
      known = c.self.inside.nodes.links.marks.known.items;
      effects = c.self.inside.effects.rows.items;
    } in
    let new : GraphState _ _ = record {
      state = g.S.AnyStorage.state c.refresh.new.self.store;
      revision = c.refresh.new.self.revision;
      known = c.refresh.new.self.links.marks.known.items;
      effects = c.self.inside.effects.rows.items;
    } in
    let simple = c.refresh.ensures.simple in
    let same = c.refresh.ensures.revision in
    let sound = c.refresh.ensures.sound _ c.self.invariant.kept.sound in
    let refreshed = c.refresh.ensures.refreshed _ c.self.invariant.kept.sound c.self.invariant.blamed in rw (← c.self.view_is) (record {
      shown = refreshed_shown old new _ simple same sound c.args.key _ refreshed;
      blames = refreshed_blames old new _ simple same sound c.refresh.ensures.kinds c.args.key _ refreshed;
      plans = same_plans old new _ simple same sound;
      kinds = c.refresh.ensures.kinds;
      lasts = still_shown (book (g.S.AnyStorage.state c.self.inside.nodes.store) c.self.inside.nodes.links)
          (book (g.S.AnyStorage.state c.refresh.new.self.store) c.refresh.new.self.links)
          (c.refresh.ensures.lasts _ c.self.invariant.kept.sound);
      effects = refl;
      known = λ shown. c.refresh.ensures.known _ c.self.invariant.kept.sound c.self.invariant.blamed (some_is _ shown);
    })
