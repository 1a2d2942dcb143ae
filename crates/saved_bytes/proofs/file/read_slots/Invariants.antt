use Rattle.std.proofs.Common.{◌≡◌, ◌+◌, ◌-◌, ◌/◌, List, ℕ, Some, length}
use Rattle.store_images.specs.declared.image.SlotImage.{SlotImage}
use Rattle.saved_bytes.specs.Files.{ArePieces}
use Rattle.saved_bytes.specs.declared.file.TheConstants.{PIECE}
use Rattle.saved_bytes.proofs.Taken.{AreGone, ArePiecesRead}
use Rattle.saved_bytes.proofs.file.read_slots.Given as goal

abbrev pub invariant-loop : goal.invariant-loop
invariant-loop g l =
    let old = g.R.Read.remaining l.fn.input in
    let now = g.R.Read.remaining l.input in
    ArePiecesRead old now
    × ((slots : List (SlotImage g.row.T.Denot)) (bytes : List ℕ) → length slots ≡ l.count → ArePieces g.T.Saved.form (l.count / PIECE + 1) slots bytes
    → old ≡ Some bytes → AreGone g.T.Saved.form l.files l.here (l.count / PIECE + 1 - (l.counter + 1)) slots l.slots.items now)
