use Rattle.std.proofs.Common.{◌∙◌}
use Rattle.store_rows.proofs.{no_rows}
use Rattle.store_rows.proofs.rows.PackedRows.new.Goals as goal

pub returns : goal.returns
returns c = c.of.ensures ∙ no_rows _ _ _ _ c.new-slots.ensures c.new-2.ensures
