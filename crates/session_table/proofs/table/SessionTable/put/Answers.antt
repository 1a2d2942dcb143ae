use Rattle.session_table.proofs.{arith, below_raised, subst}
use Rattle.session_table.specs.Bounds.{AreLowerBounds}
use Rattle.session_table.proofs.{ap, asked_id, changed, inr, is_some, length-map, live_row, made_next, map, meets_given}
use Rattle.session_table.proofs.{meets_number, other_sessions, own_session, put_apart, put_beside, put_fresh, put_given}
use Rattle.session_table.proofs.{put_keeps, put_leaves, put_rows, put_shown, put_still, put_unkept, rules}
use Rattle.session_table.proofs.{same_held, same_rows, same_sessions, session_of, Some, sym, ◌∙◌}
use Rattle.session_table.proofs.table.SessionTable.put.Goals as goal

pub keep-requires : goal.keep-requires
keep-requires g c = c.self.invariant.0.simple

pub invariant_of-self-2 : goal.invariant_of-self-2
invariant_of-self-2 g c =
    let asked = asked_id (g.met.P.Equivalent.respects_eq c.args.id) c.self.inside.rows.entries (sym c.in-Some.ensures.value) in
    let found = rw (asked.1) at (sym c.in-Some.ensures.value) in (
      put_rows (changed g.met.I.Eq.laws asked.0 found (rw (asked.1) at ((c.get_mut.follows.holds c.keep.new.self).3 (ap is_some (sym c.in-Some.ensures.value))).0))
          c.args.key c.in_ok-entry.entry c.in_ok-entry.ensures.entries (g.met.S.AnyStorage.sound c.self.inside.store) c.self.invariant.0
          _ _ c.in_ok-entry.ensures.put,
      subst (AreLowerBounds _) (sym (c.get_mut.follows.holds c.keep.new.self).0) (below_raised c.self.invariant.1
          (g.P.Equivalent.equivalent c.args.id) c.keep.new.self (sym c.in-Some.ensures.value) (omega (arith, c.keep.ensures.used))),
    )

pub invariant_of-self-in_err-entry : goal.invariant_of-self-in_err-entry
invariant_of-self-in_err-entry g c =
    let asked = asked_id (g.met.P.Equivalent.respects_eq c.args.id) c.self.inside.rows.entries (sym c.in-Some.ensures.value) in
    let found = rw (asked.1) at (sym c.in-Some.ensures.value) in (
      rw c.in_err-entry.ensures.refused (same_rows (changed g.met.I.Eq.laws asked.0 found
          (rw (asked.1) at ((c.get_mut.follows.holds c.keep.new.self).3 (ap is_some (sym c.in-Some.ensures.value))).0)) c.self.invariant.0
          (same_held c.in-Some.session.now c.keep.new.self c.in_err-entry.ensures.same)),
      subst (AreLowerBounds _) (sym (c.get_mut.follows.holds c.keep.new.self).0) (below_raised c.self.invariant.1
          (g.P.Equivalent.equivalent c.args.id) c.keep.new.self (sym c.in-Some.ensures.value) (omega (arith, c.keep.ensures.used))),
    )

pub returns : goal.returns
returns g c =
    let asked = asked_id (g.met.P.Equivalent.respects_eq c.args.id) c.self.inside.rows.entries (sym c.in-Some.ensures.value) in
    let found = rw (asked.1) at (sym c.in-Some.ensures.value) in
    let sound = g.met.S.AnyStorage.sound c.self.inside.store in
    let change = changed g.met.I.Eq.laws asked.0 found
    (rw (asked.1) at ((c.get_mut.follows.holds c.keep.new.self).3 (ap is_some (sym c.in-Some.ensures.value))).0) in
    let put = c.in_ok-entry.ensures.put in
    let number = meets_number _ _ _ _ put.1 in
    let entry = c.in_ok-entry.entry in
    let entries = c.in_ok-entry.ensures.entries in
    rw (← c.self.view_is, asked.1, session_of (g.I.PartialEq.eq asked.0) _ found) (record {
      shown = put_shown _ _ entry put;
      kept = own_session change
          ∙ (λ j. Some (record { used_at = c.keep.ensures.used j; entries = entries j }));
      keeps = put_keeps change c.args.key entry entries;
      still = put_still change c.args.key entry entries;
      unkept = λ other f given. put_unkept change c.args.key entry entries other f
          (put_apart _ _ entry f put given);
      others = other_sessions change;
      count = simp length-map (c.get_mut.follows.holds c.keep.new.self).2;
      beside = λ f. put_beside sound _ _ entry f put;
      left = λ f. put_leaves sound _ _ entry f put;
      new = put_fresh _ _ entry put;
      here = rw number c.in_ok-entry.ensures.here;
      tells = λ f l told. rw number (c.in_ok-entry.ensures.tells f l told);
      put = λ f. meets_given _ _ _ _ put.1 _;
      given = put_given _ _ entry put;
      ticket = made_next _ _ _ put.1;
      unknown = search rules;
      in_use = c.in_ok-entry.ensures.in_use;
      short = search rules;
      back = search rules;
      refused = search rules;
    })

pub returns-in_err-entry : goal.returns-in_err-entry
returns-in_err-entry g c =
    let found = sym c.in-Some.ensures.value in
    let why = c.in_err-entry.ensures in
    let same = ap (map live_row) (c.get_mut.follows.holds c.keep.new.self).0
    ∙ same_sessions (g.P.Equivalent.equivalent c.args.id) _ _ c.keep.new.self (sym c.in-Some.ensures.value)
    (λ j. record { used_at = c.keep.ensures.used j; entries = why.same j }) in
    let session = session_of (g.P.Equivalent.equivalent c.args.id) _ found in
    rw (← c.self.view_is, why.refused, same, session, why.sites) (search (rules, inr))

pub returns-in_default : goal.returns-in_default
returns-in_default g c =
    let none = session_of (g.P.Equivalent.equivalent c.args.id) _ (sym c.in_default.ensures.value) in
    rw (← c.self.view_is, c.get_mut.follows.holds-at-none, none) (search rules)
