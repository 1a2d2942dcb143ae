use Rattle.std.proofs.Common.{ap, arith, length, refl}
use Rattle.std.proofs.{lemmas.Slice.Zip.length-zip, lemmas.Option.slice_get_read}
use Rattle.store_rows.proofs.{pair_at}
use Rattle.store_rows.proofs.columns.PackedSlots.slot.Goals as goal

pub index-requires : goal.index-requires
index-requires c =
    let s = c.self.inside in
    omega (arith, length-zip s.slots.items s.made_at.items, ap length c.self.view_is)

pub returns : goal.returns
returns c =
    let s = c.self.inside in
    let long = length-zip s.slots.items s.made_at.items in
    let seen = ap length c.self.view_is in
    let there = slice_get_read s.slots.items _ _ _ refl (omega arith) c.index.ensures in
    let pair = rw c.self.view_is at (pair_at _ s.made_at.items c.args.slot c.self.invariant) in
    grind arith
