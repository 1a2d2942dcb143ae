use Rattle.std.proofs.Common.{length, ◌≤◌}
use Rattle.store_slots.specs.Packing.{AreRenewed}
use Rattle.store_slots.proofs.packing.pack_ahead.Given as goal

-- those so far are renewed
abbrev pub invariant-loop-slot : goal.invariant-loop-slot
invariant-loop-slot g l = record {
  renewed : AreRenewed l.entries.slots l.fn.slots l.slots;
  long : l.slot ≤ length l.slots;
}
