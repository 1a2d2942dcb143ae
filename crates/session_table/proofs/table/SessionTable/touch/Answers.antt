use Rattle.session_table.proofs.{arith, below_raised, below_set, keys_of, position, subst}
use Rattle.session_table.specs.Bounds.{AreLowerBounds}
use Rattle.session_table.proofs.{ap, asked_id, changed, is_some, length-map, other_sessions, own_session, refl, rules}
use Rattle.session_table.proofs.{same_rows, session_of, sym}
use Rattle.session_table.proofs.table.SessionTable.touch.Goals as goal

pub invariant_of-self-else-goes_back : goal.invariant_of-self-else-goes_back
invariant_of-self-else-goes_back g c =
    let w = record c.in-Some.session.now { used_at = c.args.now } in
    let asked = asked_id (g.met.P.Equivalent.respects_eq c.args.id) c.self.inside.rows.entries (sym c.in-Some.ensures.value) in
    let found = rw (asked.1) at (sym c.in-Some.ensures.value) in (
      same_rows (changed g.met.I.Eq.laws asked.0 found
          (rw (asked.1) at ((c.get_mut.follows.holds w).3 (ap is_some (sym c.in-Some.ensures.value))).0))
          c.self.invariant.0 refl,
      subst (AreLowerBounds _) (sym (c.get_mut.follows.holds w).0) (below_raised c.self.invariant.1
          (g.P.Equivalent.equivalent c.args.id) w (sym c.in-Some.ensures.value) (omega (arith, c.if-goes_back.false))),
    )

pub invariant_of-self-then-goes_back : goal.invariant_of-self-then-goes_back
invariant_of-self-then-goes_back g c =
    let w = record c.in-Some.session.now { used_at = c.args.now } in
    let asked = asked_id (g.met.P.Equivalent.respects_eq c.args.id) c.self.inside.rows.entries (sym c.in-Some.ensures.value) in
    let found = rw (asked.1) at (sym c.in-Some.ensures.value) in (
      same_rows (changed g.met.I.Eq.laws asked.0 found
          (rw (asked.1) at ((c.get_mut.follows.holds w).3 (ap is_some (sym c.in-Some.ensures.value))).0))
          c.self.invariant.0 refl,
      subst (AreLowerBounds _) (sym (c.get_mut.follows.holds w).0) (below_set c.self.invariant.1
          (g.P.Equivalent.equivalent c.args.id) w _ (ap (λ rows. position (g.P.Equivalent.equivalent c.args.id) (keys_of rows)) (c.get_mut.follows.holds w).0)
          c.lower_at.ensures.others c.lower_at.ensures.here),
    )

pub returns-else-goes_back : goal.returns-else-goes_back
returns-else-goes_back g c =
    let w = record c.in-Some.session.now { used_at = c.args.now } in
    let asked = asked_id (g.met.P.Equivalent.respects_eq c.args.id) c.self.inside.rows.entries (sym c.in-Some.ensures.value) in
    let found = rw (asked.1) at (sym c.in-Some.ensures.value) in
    let change = changed g.met.I.Eq.laws asked.0 found
    (rw (asked.1) at ((c.get_mut.follows.holds w).3 (ap is_some (sym c.in-Some.ensures.value))).0) in
    rw (← c.self.view_is, asked.1, session_of (g.I.PartialEq.eq asked.0) c.self.inside.rows.entries found) (record {
      had = refl;
      used = own_session change;
      others = other_sessions change;
      count = simp length-map (c.get_mut.follows.holds w).2;
      state = refl;
      sites = refl;
    })

pub returns-then-goes_back : goal.returns-then-goes_back
returns-then-goes_back g c =
    let w = record c.in-Some.session.now { used_at = c.args.now } in
    let asked = asked_id (g.met.P.Equivalent.respects_eq c.args.id) c.self.inside.rows.entries (sym c.in-Some.ensures.value) in
    let found = rw (asked.1) at (sym c.in-Some.ensures.value) in
    let change = changed g.met.I.Eq.laws asked.0 found
    (rw (asked.1) at ((c.get_mut.follows.holds w).3 (ap is_some (sym c.in-Some.ensures.value))).0) in
    rw (← c.self.view_is, asked.1, session_of (g.I.PartialEq.eq asked.0) c.self.inside.rows.entries found) (record {
      had = refl;
      used = own_session change;
      others = other_sessions change;
      count = simp length-map (c.get_mut.follows.holds w).2;
      state = refl;
      sites = refl;
    })

pub returns-in_default : goal.returns-in_default
returns-in_default g c =
    let none = session_of _ c.self.inside.rows.entries (sym c.in_default.ensures.value) in
    rw (← c.self.view_is, c.get_mut.follows.holds-at-none, none) (search rules)
