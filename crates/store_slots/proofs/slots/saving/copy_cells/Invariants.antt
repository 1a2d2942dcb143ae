use Rattle.std.proofs.Common.{◌≡◌, ◌≤◌, length, take, vec_capacity}
use Rattle.store_slots.specs.ImageSlots.{AreSlotImages}
use Rattle.store_slots.proofs.slots.saving.copy_cells.Given as goal

-- the slots so far have images
abbrev pub invariant-loop-slot : goal.invariant-loop-slot
invariant-loop-slot g l = record {
  images : AreSlotImages g.T.Clone.is_clone (take l.slot l.entries.slots) l.images.items;
  many : length l.images.items ≡ l.slot;
  room : length l.entries.slots ≤ vec_capacity l.images;
}
