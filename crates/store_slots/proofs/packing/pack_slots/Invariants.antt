use Rattle.store_slots.proofs.{take, ℕ, ◌≡◌, ◌≤◌}
use Rattle.std.proofs.Common.{length, slice_get}
use Rattle.store_slots.specs.Packing.{ArePacked}
use Rattle.store_slots.proofs.packing.pack_slots.Given as goal

-- the slots so far are packed, and the others are unchanged
abbrev pub invariant-loop-slot : goal.invariant-loop-slot
invariant-loop-slot g l = record {
  packed : ArePacked l.number (take l.slot l.entries.slots) l.whole.items (take l.slot l.slots);
  long : l.slot ≤ length l.slots;
  rest : (i : ℕ) → l.slot ≤ i → slice_get l.slots i ≡ slice_get l.fn.slots i;
}
