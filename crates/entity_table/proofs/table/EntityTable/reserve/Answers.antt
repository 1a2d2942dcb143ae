use Rattle.entity_table.proofs.{refl, reserved_rows}
use Rattle.entity_table.proofs.table.EntityTable.reserve.Goals as goal

pub returns-clause-same : goal.returns-clause-same
returns-clause-same g c =
    let rows = reserved_rows g.row.T.Denot c.self.inside.rows c.reserve.new.self c.reserve.ensures.number c.reserve.ensures.same in
    rw (← c.self.view_is, rows) refl
