use Rattle.std.proofs.Common.{take}
use Rattle.saved_bytes.specs.Forms.{Appends, items_form, written}
use Rattle.saved_bytes.specs.Images.{slot_form}
use Rattle.saved_bytes.specs.FileNames.{texts}
use Rattle.saved_bytes.proofs.images.encode_slots.Given as goal

abbrev pub invariant-loop-slot : goal.invariant-loop-slot
invariant-loop-slot g l =
    Appends (items_form (slot_form (texts l.names) g.T.Saved.form) (take l.slot-index l.slots)) (written l.fn.out) (written l.out)
