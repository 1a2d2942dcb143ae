use Rattle.session_table.proofs.{ap, live_row, option_map, refl, rules, same_Some, slice_get-map, sym, ◌∙◌}
use Rattle.session_table.proofs.table.SessionTable.is_old_at.Goals as goal

pub returns-in-Some : goal.returns-in-Some
returns-in-Some g c =
    let at = slice_get-map live_row c.self.inside.rows.entries c.args.place
    ∙ ap (option_map live_row) (sym c.in-Some.ensures.entry) in
    rw (← c.self.view_is, at) (λ e there. rw (← same_Some _ e there) refl)

pub returns-in-None : goal.returns-in-None
returns-in-None g c =
    let at = slice_get-map live_row c.self.inside.rows.entries c.args.place
    ∙ ap (option_map live_row) (sym c.in-None.ensures.entry) in
    rw (← c.self.view_is, at) (search rules)
