use Rattle.session_table.proofs.{entry_shows, rules, session_of, sym}
use Rattle.session_table.proofs.table.SessionTable.entry.Goals as goal

pub returns-clause-found : goal.returns-clause-found
returns-clause-found g c = rw (
  ← c.self.view_is,
  session_of (g.P.Equivalent.equivalent c.args.id)
      c.self.inside.rows.entries (sym c.in_ok-get.ensures.value),
) c.entry.ensures

pub returns-clause-live : goal.returns-clause-live
returns-clause-live g c = rw (← c.self.view_is) (entry_shows (g.met.P.Equivalent.respects_eq c.args.id)
    c.self.inside.rows.entries c.self.invariant.0 (sym c.in_ok-get.ensures.value) (g.Q.Equivalent.equivalent c.args.key)
    c.entry.result c.entry.ensures)

pub returns-in_err-get-clause-found : goal.returns-in_err-get-clause-found
returns-in_err-get-clause-found g c =
    let none = session_of (g.P.Equivalent.equivalent c.args.id) c.self.inside.rows.entries (sym c.in_err-get.ensures.value) in
    rw (← c.self.view_is, none) (search rules)
