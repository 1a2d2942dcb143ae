use Rattle.std.proofs.Common.{◌≡◌, ◌≤◌, take}
use Rattle.store_parts.specs.Lists.{how_many}
use Rattle.store_images.specs.Images.{is_usable}
use Rattle.store_images.proofs.check.usable.Given as goal

-- those so far are counted
abbrev pub invariant-loop-image : goal.invariant-loop-image
invariant-loop-image g l = record {
  counted : l.count ≡ how_many is_usable (take l.image-index l.slots);
  few : l.count ≤ l.image-index;
}
