use Rattle.entity_table.proofs.{rows_count, sym, ◌∙◌}
use Rattle.entity_table.proofs.table.EntityTable.len.Goals as goal

pub returns : goal.returns
returns g c = rw (← c.self.view_is) (c.len.ensures ∙ sym (rows_count g.row.T.Denot c.self.inside.rows))
