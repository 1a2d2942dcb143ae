use Rattle.session_table.proofs.{keeps_among, live_among, sym, told_in, ◌∙◌}
use Rattle.session_table.proofs.table.SessionTable.session_of.Goals as goal

pub unreachable-requires : goal.unreachable-requires
unreachable-requires g c =
    let shows = rw (← c.self.view_is) at (sym c.shows.ensures ∙ c.if-not-shows.false) in
    let at = live_among g.I.PartialEq.eq (g.S.AnyStorage.state c.self.inside.store) c.self.inside.rows.entries c.args.entry
    (g.met.S.AnyStorage.sound c.self.inside.store) c.self.invariant.0 shows in
    c.in_default.ensures.none at.0 at.1

pub returns-clause-kept : goal.returns-clause-kept
returns-clause-kept g c = rw (← c.self.view_is) (keeps_among g.I.PartialEq.eq (g.S.AnyStorage.state c.self.inside.store)
    c.self.inside.rows.entries (told_in c.self.inside.sites) c.in-Some.row c.args.entry c.in-Some-get_index.id.now
    c.in-Some-get_index.field-0-1.now c.in-Some-get_index.ensures.value (sym c.in-Some-get_index.ensures.entry)
    c.in-Some.ensures.found)
