use Rattle.session_table.proofs.{absent_from_lookup, arith, below_lower, below_pushed, insert_entry-absent, subst}
use Rattle.session_table.specs.Bounds.{AreLowerBounds, bound_at}
use Rattle.session_table.proofs.{length, ◌≤◌}
use Rattle.session_table.proofs.{ap, begun_last, changed, live_row, login_rows, map, no_row, none-some}
use Rattle.session_table.proofs.{other_sessions, own_session, refl, rules, Some, sym, [], ◌++◌, ◌∙◌, ◌∷◌}
use Rattle.session_table.proofs.table.SessionTable.login.Goals as goal

pub unreachable-requires : goal.unreachable-requires
unreachable-requires g c =
    let none = no_row (g.I.PartialEq.eq c.args.id) c.self.inside.rows.entries
    (rw (← c.self.view_is) at (sym c.has.ensures ∙ c.if-has.false)) in
    none-some _ (sym (rw c.reserve.ensures.entries at c.in-Ok-Some.ensures.old ∙ none) ∙ c.in-Ok-Some.field-0-is)

pub invariant_of-self-2 : goal.invariant_of-self-2
invariant_of-self-2 g c =
    let none = no_row (g.I.PartialEq.eq c.args.id) c.self.inside.rows.entries
    (rw (← c.self.view_is) at (sym c.has.ensures ∙ c.if-has.false)) in (
      login_rows c.self.invariant.0 (changed g.met.I.Eq.laws c.args.id none
          (rw c.reserve.ensures.entries at c.in-Ok-None.ensures.updates.0)) c.new.ensures.empty,
      subst (AreLowerBounds _) (sym (rw c.reserve.ensures.entries at c.in-Ok-None.ensures.entries
          ∙ insert_entry-absent g.I.PartialEq.eq c.args.id _ c.self.inside.rows.entries (absent_from_lookup _ _ none)))
          (below_pushed (below_lower c.self.invariant.1 (λ at. omega (arith, c.lower.ensures.others at, c.cover.ensures at)))
          c.args.id (record { used_at = c.args.now; seat = c.take_seat.result; entries = c.new.result })
          (subst (λ n. bound_at c.lower.new.self n ≤ c.args.now) (c.len-place.ensures.len ∙ ap length c.reserve.ensures.entries)
          c.lower.ensures.here)),
    )

pub returns : goal.returns
returns g c =
    let rows = c.self.inside.rows.entries in
    let none = no_row (g.I.PartialEq.eq c.args.id) rows (rw (← c.self.view_is) at (sym c.has.ensures ∙ c.if-has.false)) in
    let change = changed g.met.I.Eq.laws c.args.id none (rw c.reserve.ensures.entries at c.in-Ok-None.ensures.updates.0) in
    let last = begun_last g.I.PartialEq.eq rows c.args.id _ none (rw c.reserve.ensures.entries at c.in-Ok-None.ensures.entries) in
    rw (← c.self.view_is) (record {
      opened = own_session change ∙ ap (λ es. Some (record { used_at = c.args.now; entries = es })) c.new.ensures.empty;
      others = other_sessions change;
      order = last ∙ ap (λ es. map live_row rows ++ (c.args.id, record { used_at = c.args.now; entries = es }) ∷ [])
          c.new.ensures.empty;
      state = refl;
      sites = refl;
      in_use = search rules;
      short = search rules;
      back = search rules;
      refused = search rules;
    })
