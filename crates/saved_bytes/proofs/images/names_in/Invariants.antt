use Rattle.std.proofs.Common.{take}
use Rattle.std.specs.List.{AllByRecursion}
use Rattle.saved_bytes.specs.Images.{IsSlotNamed}
use Rattle.saved_bytes.specs.FileNames.{texts}
use Rattle.saved_bytes.proofs.images.names_in.Given as goal

abbrev pub invariant-loop-slot : goal.invariant-loop-slot
invariant-loop-slot g l = AllByRecursion (IsSlotNamed (texts l.names.items)) (take l.slot-index l.slots)
