use Rattle.session_table.proofs.{arith, below_raised, subst}
use Rattle.session_table.specs.Bounds.{AreLowerBounds}
use Rattle.session_table.proofs.{ap, asked_id, changed, forgotten_rows, is_some, length-map, live_row, lost_beside, lost_one, map}
use Rattle.session_table.proofs.{name_of, one_named, other_sessions, own_session, pointer_in, row_own, row_shows}
use Rattle.session_table.proofs.{rules, same_held, same_id_sees, same_rows, same_sessions, same_Some, session_of}
use Rattle.session_table.proofs.{simple_taken, Some, sym, told_at, told_in, true≢false, ◌∙◌}
use Rattle.session_table.proofs.table.SessionTable.take_out.Goals as goal

pub returns-in_default : goal.returns-in_default
returns-in_default g c =
    let none = session_of _ c.self.inside.rows.entries (sym c.in_default.ensures.value) in
    rw (← c.self.view_is, c.get_mut.follows.holds-at-none, none) (search rules)

pub invariant_of-self-in_default-forget : goal.invariant_of-self-in_default-forget
invariant_of-self-in_default-forget g c =
    let asked = asked_id (g.met.P.Equivalent.respects_eq c.args.id) c.self.inside.rows.entries (sym c.in-Some.ensures.value) in
    let found = rw (asked.1) at (sym c.in-Some.ensures.value) in (
      same_rows (changed g.met.I.Eq.laws asked.0 found
          (rw (asked.1) at ((c.get_mut.follows.holds c.forget.new.self).3 (ap is_some (sym c.in-Some.ensures.value))).0)) c.self.invariant.0
          (same_held c.in-Some.session.now c.forget.new.self c.in_default-forget.ensures.same),
      subst (AreLowerBounds _) (sym (c.get_mut.follows.holds c.forget.new.self).0) (below_raised c.self.invariant.1
          (g.P.Equivalent.equivalent c.args.id) c.forget.new.self (sym c.in-Some.ensures.value) (omega (arith, c.forget.ensures.used))),
    )

pub returns-in_default-forget : goal.returns-in_default-forget
returns-in_default-forget g c =
    let found = sym c.in-Some.ensures.value in
    let was = c.in_default-forget.ensures in
    let same = ap (map live_row) (c.get_mut.follows.holds c.forget.new.self).0
    ∙ same_sessions _ c.self.inside.rows.entries _ c.forget.new.self found
    (λ j. record { used_at = c.forget.ensures.used j; entries = was.same j }) in
    let session = session_of _ c.self.inside.rows.entries found in
    rw (← c.self.view_is, same, session, ← was.entry) (search rules)

pub unreachable-requires : goal.unreachable-requires
unreachable-requires g c =
    let sound = g.met.S.AnyStorage.sound c.self.inside.store in
    let k = c.self.invariant.0 in
    let asked = asked_id (g.met.P.Equivalent.respects_eq c.args.id) c.self.inside.rows.entries (sym c.in-Some.ensures.value) in
    let found = rw (asked.1) at (sym c.in-Some.ensures.value) in
    let entry = sym c.in-Some-forget.ensures.entry in
    let seen = row_shows _ _ k found _ entry in
    let b = pointer_in c.in-Some-forget.entry in
    true≢false (sym seen ∙ ap is_some (sym (same_id_sees _ c.pointer_to.result b c.pointer_to.ensures)
    ∙ (sym (simple_taken _ sound k.simple.plain k.simple.unborrowed c.pointer_to.result)
    ∙ (sym c.take_value.ensures.value ∙ c.in-None.is))))

pub invariant_of-self-2 : goal.invariant_of-self-2
invariant_of-self-2 g c =
    let asked = asked_id (g.met.P.Equivalent.respects_eq c.args.id) c.self.inside.rows.entries (sym c.in-Some.ensures.value) in
    let found = rw (asked.1) at (sym c.in-Some.ensures.value) in
    let change = changed g.met.I.Eq.laws asked.0 found
    (rw (asked.1) at ((c.get_mut.follows.holds c.forget.new.self).3 (ap is_some (sym c.in-Some.ensures.value))).0) in
    let seen = row_shows _ _ c.self.invariant.0 found _ (sym c.in-Some-forget.ensures.entry) in (
      forgotten_rows _ _ c.self.invariant.0 found _ (sym c.in-Some-forget.ensures.entry) c.args.in_order change c.forget.ensures.entries
          (lost_one (g.met.S.AnyStorage.sound _) c.self.invariant.0.simple c.in-Some-forget.entry c.pointer_to.result
          c.pointer_to.ensures seen c.in-Some-take_value.ensures.ended),
      subst (AreLowerBounds _) (sym (c.get_mut.follows.holds c.forget.new.self).0) (below_raised c.self.invariant.1
          (g.P.Equivalent.equivalent c.args.id) c.forget.new.self (sym c.in-Some.ensures.value) (omega (arith, c.forget.ensures.used))),
    )

pub returns : goal.returns
returns g c =
    let asked = asked_id (g.met.P.Equivalent.respects_eq c.args.id) c.self.inside.rows.entries (sym c.in-Some.ensures.value) in
    let found = rw (asked.1) at (sym c.in-Some.ensures.value) in
    let entry = c.in-Some-forget.entry in
    let sound = g.met.S.AnyStorage.sound c.self.inside.store in
    let change = changed g.met.I.Eq.laws asked.0 found
    (rw (asked.1) at ((c.get_mut.follows.holds c.forget.new.self).3 (ap is_some (sym c.in-Some.ensures.value))).0) in
    let k = c.self.invariant.0 in
    let seen = row_shows _ _ k found _ (sym c.in-Some-forget.ensures.entry) in
    let lost = lost_one sound k.simple entry c.pointer_to.result c.pointer_to.ensures seen
    c.in-Some-take_value.ensures.ended in
    let own = row_own _ _ k found _ (sym c.in-Some-forget.ensures.entry) in
    let session = session_of _ c.self.inside.rows.entries found in
    rw (← c.self.view_is, asked.1, session, ← c.in-Some-forget.ensures.entry) (record {
      taken = λ e is. rw (← same_Some entry e is) (sym (sym (same_id_sees _ c.pointer_to.result (pointer_in entry)
          c.pointer_to.ensures) ∙ (sym (simple_taken _ sound k.simple.plain k.simple.unborrowed c.pointer_to.result)
          ∙ (sym c.take_value.ensures.value ∙ c.in-Some-take_value.is))));
      none = search rules;
      kept = λ some.
          let w = c.forget.ensures in
          own_session change ∙ (λ j. Some (record { used_at = w.used j; entries = w.entries j }));
      others = other_sessions change;
      count = simp length-map (c.get_mut.follows.holds c.forget.new.self).2;
      gone = λ e is. rw (← same_Some entry e is) (lost.ended (pointer_in entry) (one_named (name_of (pointer_in entry))));
      beside = λ e is f other. lost_beside sound entry f own lost (rw (← same_Some entry e is) at other);
      put = λ f. lost.given (name_of (pointer_in f));
      tells = λ f. ap (λ n. told_at n (told_in c.self.inside.sites) f) lost.number;
      ticket = lost.next;
      unchanged = search rules;
    })
