use Rattle.store_slots.proofs.{arith, packed_step}
use Rattle.store_slots.proofs.packing.pack_slots.Goals as goal

pub loop-slot-preserved : goal.loop-slot-preserved
loop-slot-preserved g c =
    let after = packed_step c.args.number c.loop-slot.slot c.args.entries.now.slots
    c.loop-slot.whole.items c.loop-slot.slots c.pack_slot.new.whole.items
    c.pack_slot.new.slots c.args.slots.now c.loop-slot.invariant.packed
    c.loop-slot.invariant.long c.loop-slot.invariant.rest
    (omega (arith, c.loop-slot-test.true, c.len-slot-end.ensures)) c.in_ok-pack_slot.ensures in
    record { packed = after.0; long = after.1; rest = after.2 }
