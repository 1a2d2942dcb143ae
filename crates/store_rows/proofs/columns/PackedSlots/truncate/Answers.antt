use Rattle.store_rows.proofs.{zip_take}
use Rattle.store_rows.proofs.columns.PackedSlots.truncate.Goals as goal

pub returns : goal.returns
returns c = rw (c.truncate.ensures.items, c.truncate-2.ensures.items, zip_take, c.self.view_is)
