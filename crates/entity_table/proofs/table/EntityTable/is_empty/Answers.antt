use Rattle.entity_table.proofs.{none_long, rows_count, sym, ◌∙◌}
use Rattle.entity_table.proofs.table.EntityTable.is_empty.Goals as goal

pub returns : goal.returns
returns g c = rw (← c.self.view_is) (none_long _ c.len.result (c.len.ensures ∙ sym (rows_count g.row.T.Denot c.self.inside.rows)))
