use Rattle.std.proofs.Common.{◌≡◌, ◌≤◌, ℕ, length, slice_get, take, vec_capacity}
use Rattle.store_slots.specs.ImageSlots.{AreSlotImages}
use Rattle.store_slots.proofs.slots.saving.take_cells.Given as goal

-- the slots so far have images, and the others are unchanged
abbrev pub invariant-loop-slot : goal.invariant-loop-slot
invariant-loop-slot g l = record {
  images : AreSlotImages (λ v w. w ≡ v) (take l.slot l.fn.entries.slots) l.images.items;
  many : length l.images.items ≡ l.slot;
  rest : (k : ℕ) → l.slot ≤ k → slice_get l.entries.slots k ≡ slice_get l.fn.entries.slots k;
  long : length l.entries.slots ≡ length l.fn.entries.slots;
  room : length l.fn.entries.slots ≤ vec_capacity l.images;
}
