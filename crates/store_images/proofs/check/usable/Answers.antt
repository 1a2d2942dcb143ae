use Rattle.std.proofs.Common.{arith, add-one, refl}
use Rattle.std.proofs.lemmas.Option.{slice_get_read}
use Rattle.store_images.specs.Images.{is_usable}
use Rattle.store_images.proofs.{counted_more}
use Rattle.store_images.proofs.check.usable.Goals as goal
use Rattle.store_images.proofs.check.usable.Goals.{then-is_live_or_free, else-is_live_or_free}

pub loop-image-preserved : goal.loop-image-preserved
loop-image-preserved g c =
    let there = slice_get_read _ _ _ _ refl c.loop-image-test.true c.image-item.is in
    let more = counted_more is_usable c.args.slots.now c.loop-image.image-index _ there in
    let is = c.is_live_or_free.ensures in
    let inv = c.loop-image.invariant in
    rw add-one (elim c.if-is_live_or_free.branch [
      | then-is_live_or_free w ↦ record { counted = grind (arith); few = omega arith }
      | else-is_live_or_free w ↦ record { counted = grind (arith); few = omega arith }
    ])
