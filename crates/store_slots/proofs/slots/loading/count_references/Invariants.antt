use Rattle.std.proofs.Common.{◌≡◌}
use Rattle.store_slots.proofs.loading.{left}
use Rattle.store_slots.specs.ImageSlots.{AreRecounted}
use Rattle.store_slots.specs.SlotsState.{AreReferred}
use Rattle.store_slots.proofs.slots.loading.count_references.Given as goal

-- the references so far are counted
abbrev pub invariant-loop-slot : goal.invariant-loop-slot
invariant-loop-slot g l = record {
  same : AreRecounted l.fn.entries.slots l.entries.slots;
  counted : AreReferred (left l.fn.entries.slots l.slot) l.entries.slots;
  rooms : l.entries.rooms ≡ l.fn.entries.rooms;
}
