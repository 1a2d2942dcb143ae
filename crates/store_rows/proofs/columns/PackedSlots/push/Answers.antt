use Rattle.std.proofs.Common.{refl}
use Rattle.store_rows.proofs.{zip_snoc}
use Rattle.store_rows.proofs.columns.PackedSlots.push.Goals as goal

pub returns : goal.returns
returns c = record {
  ok = rw (
    c.push_reserved.ensures.items,
    c.in_ok-make_room.ensures.items,
    c.push_reserved-2.ensures.items,
    c.in_ok-make_room-2.ensures.items,
    zip_snoc _ _ c.args.packed c.args.created_at c.self.invariant,
    c.self.view_is,
  ) refl;
}
