use Rattle.session_table.proofs.{below_swapped, subst}
use Rattle.session_table.specs.Bounds.{AreLowerBoundsBut}
use Rattle.session_table.proofs.{ap, changed, ended_rows, length-map, live, live_row, live_swapped, lookup_from_place}
use Rattle.session_table.proofs.{map, name_of, now_session, option_map, pointer_in, row_live, row_once}
use Rattle.session_table.proofs.{session_of, slice_get-map, slice_get_within, sym, told_at, told_in, ◌∙◌}
use Rattle.session_table.proofs.table.SessionTable.end_at.Goals as goal

pub end-requires : goal.end-requires
end-requires g c = record {
  simple = c.self.invariant.0.simple;
  live = row_live c.self.inside.rows.entries c.self.invariant.0 c.in-Some.id _
      (lookup_from_place g.met.I.Eq.laws _ c.args.place _ _ c.len.ensures.unique (sym c.in-Some.ensures.entry));
  once = row_once c.self.inside.rows.entries c.self.invariant.0 c.in-Some.id _
      (lookup_from_place g.met.I.Eq.laws _ c.args.place _ _ c.len.ensures.unique (sym c.in-Some.ensures.entry));
}

pub invariant_of-self : goal.invariant_of-self
invariant_of-self g c = (
  ended_rows c.self.invariant.0
      (changed g.met.I.Eq.laws c.in-Some.id (lookup_from_place g.met.I.Eq.laws _ c.args.place _ _
      c.len.ensures.unique (sym c.in-Some.ensures.entry)) c.in-Some.ensures.updates.0) c.end.ensures,
  c.settle.ensures,
)

pub returns : goal.returns
returns g c =
    let rows = c.self.inside.rows.entries in
    let id = c.in-Some.id in
    let entry = sym c.in-Some.ensures.entry in
    let found = lookup_from_place g.met.I.Eq.laws _ c.args.place _ _ c.len.ensures.unique entry in
    let change = changed g.met.I.Eq.laws id found c.in-Some.ensures.updates.0 in
    let there = slice_get-map live_row rows c.args.place ∙ ap (option_map live_row) entry in
    rw (← c.self.view_is) (record {
      ended = record {
        ended = (id, live c.in-Some.session);
        there = there;
        found = session_of (g.I.PartialEq.eq id) rows found;
        sessions = now_session change;
        order = ap (map live_row) c.in-Some.ensures.entries
            ∙ live_swapped rows c.args.place _ (slice_get_within rows c.args.place _ entry);
        fewer = simp length-map c.in-Some.ensures.len;
        gone = λ e. c.end.ensures.ended (pointer_in e);
        left = λ e. c.end.ensures.others (pointer_in e);
        put = λ e. c.end.ensures.given (name_of (pointer_in e));
        told = λ e. ap (λ n. told_at n (told_in c.self.inside.sites) e) c.end.ensures.number;
        ticket = c.end.ensures.next;
      };
      id = ap (option_map (λ row. row.0)) there;
    })

pub settle-requires : goal.settle-requires
settle-requires g c = subst (AreLowerBoundsBut _ _) (sym c.in-Some.ensures.entries) (below_swapped c.self.invariant.1 c.args.place _)
