use Rattle.std.proofs.Common.{ap, arith, length}
use Rattle.std.proofs.lemmas.Slice.Zip.{length-zip}
use Rattle.store_rows.proofs.columns.PackedSlots.len.Goals as goal

pub returns : goal.returns
returns c =
    let s = c.self.inside in
    omega (arith, length-zip s.slots.items s.made_at.items, ap length c.self.view_is)
