-- Borrows that begin and end within one call of a worker.
use Rattle.std.specs.Prelude.{◌≡◌, ℕ, Bool}
use Rattle.generational_errors.specs.declared.error.Location.{Location}
use Rattle.generational_core.specs.declared.boxes.GenerationalPointer.{GenerationalPointer}
use Rattle.generational_core.specs.Borrowing.{Guard}
use Rattle.generational_core.specs.Borrowing.BorrowRefusal.{Dropped}
use Rattle.generational_core.specs.Machine.{Answer}
use Rattle.generational_core.specs.Machine.Action.{Read, ReleaseReader, ReleaseWriter, Write}
use Rattle.generational_core.specs.Machine.Answer.{BorrowRefused, Flag, Reads, Writes}
use Rattle.shared_state.specs.Shared.{IsUnseenStep}
use Rattle.shared_history.specs.Counts.{Counts}

-- a read of this box began, and ended by its own guard
pub record IsReadThrough (T : Type 0) (number : ℕ) (old : Counts) (asked : GenerationalPointer)
    (at : Location) (new : Counts) : Type 0 where
  pub guard : Guard
  pub known : Bool
  pub between : Counts
  pub begun : IsUnseenStep {T = T} number old (Read asked at) (Reads guard) between
  pub ended : IsUnseenStep {T = T} number between (ReleaseReader guard) (Flag known) new

-- a write of this box began, and returned its value; its own guard was released with the changed value,
-- and the release had this reply
pub record IsWriteThrough {T : Type 0} (number : ℕ) (old : Counts) (asked : GenerationalPointer)
    (at : Location) (value changed : T) (released : Answer T) (new : Counts) : Type 0 where
  pub guard : Guard
  pub between : Counts
  pub begun : IsUnseenStep number old (Write asked at) (Writes guard value) between
  pub ended : IsUnseenStep number between (ReleaseWriter guard changed) released new

-- the reply that this box's value was dropped
abbrev pub IsOwnDropped : (T : Type 0) → GenerationalPointer → Answer T → Type 0
IsOwnDropped T asked answer = answer ≡ BorrowRefused (Dropped asked.created_at)
