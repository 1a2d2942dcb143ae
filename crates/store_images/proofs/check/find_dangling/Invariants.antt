use Rattle.std.proofs.Common.{◌≡◌, ◌<◌, ℕ, Some, length, slice_get, take}
use Rattle.store_images.specs.Images.{HasTarget, is_referred_to}
use Rattle.store_images.proofs.check.find_dangling.Given as goal

-- the references so far have targets, which are noted
abbrev pub invariant-loop-slot : goal.invariant-loop-slot
invariant-loop-slot g l = record {
  targets : (k : ℕ) → k < l.slot → HasTarget l.slots (slice_get l.slots k);
  long : length l.named ≡ length l.slots;
  named : (k : ℕ) → k < length l.slots
      → slice_get l.named k ≡ Some (is_referred_to (take l.slot l.slots) k);
}
