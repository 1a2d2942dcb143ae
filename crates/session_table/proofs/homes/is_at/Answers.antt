use Rattle.session_table.proofs.{at_index, Entry, same_answer, Session, sym}
use Rattle.session_table.proofs.homes.is_at.Goals as goal

pub returns-in-Some-get_index : goal.returns-in-Some-get_index
returns-in-Some-get_index g c =
    let x : g.row.I.Denot × Session g.row.K.Denot g.row.T.Denot = (c.in-Some.field-0-0.now, c.in-Some.session.now) in
    let p : g.row.K.Denot × Entry g.row.T.Denot = (c.in-Some-get_index.field-0-0.now, c.in-Some-get_index.found.now) in
    let row = sym c.in-Some.ensures.entry in
    let entry = sym c.in-Some-get_index.ensures.entry in
    let same = same_answer {T = g.row.T.Denot} c.eq.result p.1 c.args.entry c.eq.ensures in (
      λ equal. (x, p, row, entry, same.0 equal),
      λ at. same.1 (at_index c.args.rows.now.entries c.args.row c.args.index c.args.entry x row at p entry),
    )
