use Rattle.std.proofs.Common.{◌≡◌, length, List, ℕ}
use Rattle.std.specs.Borrow.{Bor}
use Rattle.saved_bytes.specs.Forms.{unread}
use Rattle.saved_bytes.specs.Images.{slot_form, IsSlotAgain, IsSlotNamed}
use Rattle.saved_bytes.specs.FileNames.{IsFound}
use Rattle.saved_bytes.specs.Reading.{ArePairwise}
use Rattle.saved_bytes.proofs.Items.{AreRead}
use Rattle.saved_bytes.proofs.images.decode_slots.Given as goal

abbrev pub invariant-loop : goal.invariant-loop
invariant-loop g l = (length l.slots.items ≡ l.counter)
    × ((files : List (Bor (List ℕ))) (names : List (List ℕ)) → ArePairwise (IsFound files) names l.found_files
    → AreRead (IsSlotNamed names) (slot_form names g.T.Saved.form) (IsSlotAgain files l.here g.T.Saved.form) l.count
    (unread l.fn.input) l.slots.items (unread l.input))
