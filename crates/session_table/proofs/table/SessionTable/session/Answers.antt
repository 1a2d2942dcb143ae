use Rattle.session_table.proofs.{ap, live, option_map, refl, session_of, sym, ◌∙◌}
use Rattle.session_table.proofs.table.SessionTable.session.Goals as goal

pub returns : goal.returns
returns g c = rw (← c.self.view_is) (ap (option_map live) c.get.ensures.value
    ∙ sym (session_of (g.P.Equivalent.equivalent c.args.id) c.self.inside.rows.entries refl))
