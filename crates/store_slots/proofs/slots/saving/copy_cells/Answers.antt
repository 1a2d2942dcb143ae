use Rattle.std.proofs.Common.{arith, length, ◌<◌}
use Rattle.store_slots.proofs.saving.{images_step}
use Rattle.store_slots.proofs.slots.saving.copy_cells.Goals as goal

pub loop-slot-preserved : goal.loop-slot-preserved
loop-slot-preserved g c =
    let i = c.loop-slot.invariant in
    let within : c.loop-slot.slot < length c.args.entries.now.slots = omega arith in
    record {
      images = rw c.push_reserved.ensures.items (images_step g.T.Clone.is_clone c.args.entries.now.slots
          c.loop-slot.slot c.loop-slot.images.items _ within i.images c.generation-generation.ensures
          c.in_ok-cell.ensures);
      many = omega (arith, c.push_reserved.ensures.len, i.many);
      room = omega (arith, c.push_reserved.ensures.capacity, i.room);
    }
