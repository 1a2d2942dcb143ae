use Rattle.std.proofs.Common.{◌≡◌, ◌≤◌, ℕ, length, slice_get, take}
use Rattle.std.proofs.Common.{map as list_map}
use Rattle.store_slots.specs.ImageSlots.{ArePooled, slot_told}
use Rattle.store_slots.proofs.slots.loading.push_all.Given as goal

-- the slots so far are there, and the others are still to be taken
abbrev pub invariant-loop-slot : goal.invariant-loop-slot
invariant-loop-slot g l = record {
  slots : l.entries.slots ≡ list_map slot_told (take l.slot l.fn.slots.items);
  many : length l.entries.slots ≡ l.slot;
  pooled : ArePooled l.entries.slots (g.P.SlotPool.members l.pool) l.retired;
  rest : (k : ℕ) → l.slot ≤ k → slice_get l.slots.items k ≡ slice_get l.fn.slots.items k;
  long : length l.slots.items ≡ length l.fn.slots.items;
  rooms : l.entries.rooms ≡ l.fn.entries.rooms;
  pool : g.P.SlotPool.rooms l.pool ≡ g.P.SlotPool.rooms l.fn.pool;
  few : l.retired ≤ l.slot;
}
