use Rattle.session_table.proofs.{below_removed, subst}
use Rattle.session_table.specs.Bounds.{AreLowerBoundsBut}
use Rattle.session_table.proofs.{ap, asked_id, changed, ended_rows, kept_once, length-map, live_removed, live_row, map}
use Rattle.session_table.proofs.{name_of, other_sessions, own_session, pointer_in, refl, row_live, row_once, rules}
use Rattle.session_table.proofs.{session_of, sym, told_at, told_in, ◌∙◌}
use Rattle.session_table.proofs.table.SessionTable.logout.Goals as goal

pub end-requires : goal.end-requires
end-requires g c =
    let asked = asked_id (g.met.P.Equivalent.respects_eq c.args.id) c.self.inside.rows.entries (sym c.in-Some.ensures.value) in
    let found = rw (asked.1) at (sym c.in-Some.ensures.value) in record {
      simple = c.self.invariant.0.simple;
      live = row_live _ c.self.invariant.0 asked.0 _ found;
      once = row_once _ c.self.invariant.0 asked.0 _ found;
    }

pub invariant_of-self-2 : goal.invariant_of-self-2
invariant_of-self-2 g c =
    let asked = asked_id (g.met.P.Equivalent.respects_eq c.args.id) c.self.inside.rows.entries (sym c.in-Some.ensures.value) in
    let found = rw (asked.1) at (sym c.in-Some.ensures.value) in (
      ended_rows c.self.invariant.0 (changed g.met.I.Eq.laws asked.0 found (rw (asked.1) at c.in-Some.ensures.updates.0))
          c.end.ensures,
      c.settle.ensures,
    )

pub returns : goal.returns
returns g c =
    let eq = g.I.PartialEq.eq in
    let rows = c.self.inside.rows.entries in
    let asked = asked_id (g.met.P.Equivalent.respects_eq c.args.id) c.self.inside.rows.entries (sym c.in-Some.ensures.value) in
    let found = rw (asked.1) at (sym c.in-Some.ensures.value) in
    let session = session_of (eq asked.0) rows found in
    let sites = told_in c.self.inside.sites in
    let k = c.self.invariant.0 in
    let change = changed g.met.I.Eq.laws asked.0 found (rw (asked.1) at c.in-Some.ensures.updates.0) in
    rw (← c.self.view_is, asked.1, session) (record {
      had = refl;
      ended = own_session change;
      others = other_sessions change;
      order = ap (map live_row) (rw (asked.1) at c.in-Some.ensures.entries) ∙ live_removed (eq asked.0) rows;
      count = simp length-map c.in-Some.ensures.len;
      gone = λ e. c.end.ensures.ended (pointer_in e);
      kept = λ other e ne kept. c.end.ensures.others (pointer_in e) (rw session at
          (kept_once eq (g.S.AnyStorage.state c.self.inside.store) rows sites k other asked.0 e
          (g.met.I.Eq.laws.symm other asked.0 ∙ ne) kept));
      left = λ e. c.end.ensures.others (pointer_in e);
      put = λ e. c.end.ensures.given (name_of (pointer_in e));
      tells = λ e. ap (λ n. told_at n sites e) c.end.ensures.number;
      ticket = c.end.ensures.next;
      none = search rules;
    })

pub returns-in_default : goal.returns-in_default
returns-in_default g c =
    let none = session_of (g.P.Equivalent.equivalent c.args.id) _ (sym c.in_default.ensures.value) in
    let order = ap (map live_row) (sym c.in_default.ensures.unchanged ∙ c.in_default.ensures.entries)
    ∙ live_removed (g.P.Equivalent.equivalent c.args.id) c.self.inside.rows.entries in
    rw (← c.self.view_is, c.in_default.ensures.unchanged, none) (search (rules, order))

pub settle-requires : goal.settle-requires
settle-requires g c = subst (AreLowerBoundsBut _ _) (sym c.in-Some.ensures.entries)
    (below_removed c.self.invariant.1 (g.P.Equivalent.equivalent c.args.id) c.in-Some.place (sym c.in-Some.ensures.index))
