use Rattle.session_table.proofs.{absent_from_lookup, below_lower, below_pushed, below_removed, insert_entry-absent, subst}
use Rattle.session_table.specs.Bounds.{AreLowerBounds, AreLowerBoundsBut, bound_at}
use Rattle.session_table.proofs.{◌≤◌}
use Rattle.session_table.proofs.{ap, arith, asked_id, begun_last, changed, is_some, left_none, length, length-map}
use Rattle.session_table.proofs.{live_removed, live_row, map, no_row, none-some, other_sessions, own_session}
use Rattle.session_table.proofs.{refl, renamed_rows, same_Some, session_of, still_none, sym, true≢false}
use Rattle.session_table.proofs.{[], ◌++◌, ◌∙◌, ◌∷◌}
use Rattle.session_table.proofs.table.SessionTable.rename.Goals as goal

pub unreachable-requires : goal.unreachable-requires
unreachable-requires g c =
    let had = rw (← c.self.view_is) at (sym c.has.ensures ∙ c.if-not-has.false) in
    true≢false (sym had ∙ ap is_some (session_of (g.P.Equivalent.equivalent c.args.id) c.self.inside.rows.entries
    (sym (rw c.reserve.ensures.entries at c.in_default.ensures.value))))

pub unreachable-requires-in-Ok-Some : goal.unreachable-requires-in-Ok-Some
unreachable-requires-in-Ok-Some g c =
    let asked = asked_id (g.met.P.Equivalent.respects_eq c.args.id) c.self.inside.rows.entries (sym (rw c.reserve.ensures.entries at c.in-Some.ensures.value)) in
    let found = rw (asked.1) at (sym (rw c.reserve.ensures.entries at c.in-Some.ensures.value)) in
    let free = no_row (g.I.PartialEq.eq c.args.to) c.self.inside.rows.entries
    (rw (← c.self.view_is) at (sym c.has-2.ensures ∙ c.if-has.false)) in
    let gone = changed g.met.I.Eq.laws asked.0 found (rw (asked.1) at (rw c.reserve.ensures.entries at c.in-Some.ensures.updates.0)) in
    none-some _ (sym (c.in-Ok-Some.ensures.old ∙ still_none gone c.args.to free) ∙ c.in-Ok-Some.field-0-is)

pub invariant_of-self-2 : goal.invariant_of-self-2
invariant_of-self-2 g c =
    let laws = g.met.I.Eq.laws in
    let asked = asked_id (g.met.P.Equivalent.respects_eq c.args.id) c.self.inside.rows.entries (sym (rw c.reserve.ensures.entries at c.in-Some.ensures.value)) in
    let found = rw (asked.1) at (sym (rw c.reserve.ensures.entries at c.in-Some.ensures.value)) in
    let free = no_row (g.I.PartialEq.eq c.args.to) c.self.inside.rows.entries
    (rw (← c.self.view_is) at (sym c.has-2.ensures ∙ c.if-has.false)) in
    let gone = changed laws asked.0 found (rw (asked.1) at (rw c.reserve.ensures.entries at c.in-Some.ensures.updates.0)) in (
      renamed_rows c.self.invariant.0 gone (changed laws c.args.to (still_none gone c.args.to free)
          c.in-Ok-None.ensures.updates.0) free,
      subst (AreLowerBounds _) (sym (c.in-Ok-None.ensures.entries
          ∙ insert_entry-absent g.I.PartialEq.eq c.args.to _ _ (absent_from_lookup _ _ (still_none gone c.args.to free))))
          (below_pushed (below_lower c.settle.ensures c.lower.ensures.others) c.args.to c.in-Some.moved
          (subst (λ n. bound_at c.lower.new.self n ≤ c.in-Some.moved.used_at) c.len.ensures.len c.lower.ensures.here)),
    )

pub returns-clause-moved : goal.returns-clause-moved
returns-clause-moved g c =
    let asked = asked_id (g.met.P.Equivalent.respects_eq c.args.id) c.self.inside.rows.entries (sym (rw c.reserve.ensures.entries at c.in-Some.ensures.value)) in
    let found = rw (asked.1) at (sym (rw c.reserve.ensures.entries at c.in-Some.ensures.value)) in
    rw (← c.self.view_is, asked.1, session_of (g.I.PartialEq.eq asked.0) c.self.inside.rows.entries found)
    (own_session (changed g.met.I.Eq.laws c.args.to refl c.in-Ok-None.ensures.updates.0))

pub returns-clause-gone : goal.returns-clause-gone
returns-clause-gone g c =
    let laws = g.met.I.Eq.laws in
    let asked = asked_id (g.met.P.Equivalent.respects_eq c.args.id) c.self.inside.rows.entries (sym (rw c.reserve.ensures.entries at c.in-Some.ensures.value)) in
    let found = rw (asked.1) at (sym (rw c.reserve.ensures.entries at c.in-Some.ensures.value)) in
    let free = no_row (g.I.PartialEq.eq c.args.to) c.self.inside.rows.entries
    (rw (← c.self.view_is) at (sym c.has-2.ensures ∙ c.if-has.false)) in
    let gone = changed laws asked.0 found (rw (asked.1) at (rw c.reserve.ensures.entries at c.in-Some.ensures.updates.0)) in
    rw (asked.1) (left_none gone (changed laws c.args.to (still_none gone c.args.to free) c.in-Ok-None.ensures.updates.0) free)

pub returns-clause-others : goal.returns-clause-others
returns-clause-others g c other ne apart =
    let laws = g.met.I.Eq.laws in
    let asked = asked_id (g.met.P.Equivalent.respects_eq c.args.id) c.self.inside.rows.entries (sym (rw c.reserve.ensures.entries at c.in-Some.ensures.value)) in
    let found = rw (asked.1) at (sym (rw c.reserve.ensures.entries at c.in-Some.ensures.value)) in
    let gone = changed laws asked.0 found (rw (asked.1) at (rw c.reserve.ensures.entries at c.in-Some.ensures.updates.0)) in
    rw (← c.self.view_is) (other_sessions (changed laws c.args.to refl c.in-Ok-None.ensures.updates.0) other apart
    ∙ other_sessions gone other (rw (asked.1) at ne))

pub returns-clause-count : goal.returns-clause-count
returns-clause-count g c =
    let room = ap length c.reserve.ensures.entries in
    let less = c.in-Some.ensures.len in
    let more = rw c.in-Ok-None.field-0-is at c.in-Ok-None.ensures.len in
    rw (← c.self.view_is) (simp length-map (omega (arith, room, less, more)))

pub returns-clause-order : goal.returns-clause-order
returns-clause-order g c =
    let asked = asked_id (g.met.P.Equivalent.respects_eq c.args.id) c.self.inside.rows.entries (sym (rw c.reserve.ensures.entries at c.in-Some.ensures.value)) in
    let found = rw (asked.1) at (sym (rw c.reserve.ensures.entries at c.in-Some.ensures.value)) in
    rw (← c.self.view_is, asked.1) (λ session is.
    let eq = g.I.PartialEq.eq in
    let rows = c.self.inside.rows.entries in
    let free = no_row (eq c.args.to) rows (rw (← c.self.view_is) at (sym c.has-2.ensures ∙ c.if-has.false)) in
    let gone = changed g.met.I.Eq.laws asked.0 found (rw (asked.1) at (rw c.reserve.ensures.entries at c.in-Some.ensures.updates.0)) in
    let moved = session_of (eq asked.0) rows found in
    let others = ap (map live_row) (rw (asked.1) at (rw c.reserve.ensures.entries at c.in-Some.ensures.entries))
    ∙ live_removed (eq asked.0) rows in
    begun_last eq _ c.args.to _ (still_none gone c.args.to free) c.in-Ok-None.ensures.entries
    ∙ (λ j. others j ++ (c.args.to, same_Some _ _ (sym moved ∙ is) j) ∷ []))

pub settle-requires : goal.settle-requires
settle-requires g c = subst (AreLowerBoundsBut _ _) (sym (rw c.reserve.ensures.entries at c.in-Some.ensures.entries))
    (below_removed c.self.invariant.1 (g.P.Equivalent.equivalent c.args.id) c.in-Some.place
    (sym (rw c.reserve.ensures.entries at c.in-Some.ensures.index)))
