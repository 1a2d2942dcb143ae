use Rattle.std.proofs.Common.{◌<◌, ℕ, slice_get}
use Rattle.store_images.specs.Images.{IsReferredTo}
use Rattle.store_images.proofs.check.find_unreferenced.Given as goal

-- the shared values so far are named
abbrev pub invariant-loop-slot : goal.invariant-loop-slot
invariant-loop-slot g l = (k : ℕ) → k < l.slot → IsReferredTo l.slots k (slice_get l.slots k)
