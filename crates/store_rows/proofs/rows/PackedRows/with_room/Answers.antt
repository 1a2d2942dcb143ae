use Rattle.std.proofs.Common.{◌∙◌}
use Rattle.store_rows.proofs.{no_rows}
use Rattle.store_rows.proofs.rows.PackedRows.with_room.Goals as goal

pub returns : goal.returns
returns c = c.of.ensures ∙ no_rows _ _ _ _ c.in_ok-slots.ensures c.in_ok-owners.ensures
