use Rattle.std.proofs.Common.{add-one, append_assoc, arith}
use Rattle.store_rows.proofs.{drop_next}
use Rattle.store_rows.proofs.rows.unpack_all.Goals as goal

pub loop-slot-preserved : goal.loop-slot-preserved
loop-slot-preserved c =
    let next = drop_next c.args.slots.now c.loop-slot.slot c.slot-packed.result c.created_at.result
    (omega (arith, c.loop-slot-test.true, c.len-slot-end.ensures)) c.slot-packed.ensures
    c.created_at.ensures in
    rw (c.in_ok-unpack.ensures, c.after-rest.ensures, append_assoc)
    (rw (rw (← add-one c.loop-slot.slot) at next) at c.loop-slot.invariant)
