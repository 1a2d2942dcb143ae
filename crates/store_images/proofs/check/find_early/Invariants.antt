use Rattle.std.proofs.Common.{◌<◌, ℕ, slice_get}
use Rattle.store_images.specs.Images.{HasBegun}
use Rattle.store_images.proofs.check.find_early.Given as goal

-- those so far have begun
abbrev pub invariant-loop-slot : goal.invariant-loop-slot
invariant-loop-slot g l = (k : ℕ) → k < l.slot → HasBegun l.start (slice_get l.slots k)
