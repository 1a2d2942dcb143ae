-- The results of calls as answers of the machine.
use Rattle.std.specs.Prelude.{if◌then◌else◌, Option, Some, None, Result, Ok, Err}
use Rattle.generational_errors.specs.declared.error.BorrowError.{BorrowError}
use Rattle.generational_errors.specs.declared.error.BorrowError.TheVariants as reads
use Rattle.generational_errors.specs.declared.error.BorrowMutError.{BorrowMutError}
use Rattle.generational_errors.specs.declared.error.BorrowMutError.TheVariants as writes
use Rattle.generational_errors.specs.declared.error.Refused.{Refused}
use Rattle.generational_errors.specs.declared.error.Refused.TheVariants as refused
use Rattle.generational_errors.specs.declared.error.Refusal.{Refusal}
use Rattle.generational_core.specs.declared.boxes.GenerationalPointer.{GenerationalPointer}
use Rattle.generational_core.specs.declared.boxes.GenerationalBox.{GenerationalBox}
use Rattle.generational_core.specs.Cells.{Content}
use Rattle.generational_core.specs.Cells.Content.{Here}
use Rattle.generational_core.specs.Names.{Name}
use Rattle.generational_core.specs.State.{State, content_at}
use Rattle.generational_core.specs.Borrowing.{BorrowRefusal, Guard}
use Rattle.generational_core.specs.Borrowing.BorrowRefusal.{Dropped, BeingRead, BeingWritten}
use Rattle.generational_errors.specs.declared.error.StoreError.{StoreError}
use Rattle.generational_core.specs.Machine.{Answer, OwnerName, knows_reader}
use Rattle.generational_core.specs.Machine.Answer.{Made, Owned, Reads, Writes, Back, Done, BorrowRefused}
use Rattle.generational_core.specs.Machine.Answer.{Refused as refuses}

-- the box without its element type
abbrev pub pointer_of : {T : Type 0} → GenerationalBox T → GenerationalPointer
pointer_of b = b.raw

-- a writer's guard, and the value that it owns
pub record WriteGuard (T : Type 0) : Type 0 where
  pub guard : Guard
  pub value : T

-- why a read, and why a write or a removal, failed
abbrev pub refusal_of_read_error : BorrowError → BorrowRefusal
refusal_of_read_error (reads.Dropped e) = Dropped e.created_at
refusal_of_read_error (reads.AlreadyBorrowedMut e) = BeingWritten e.borrowed_mut_at

abbrev pub refusal_of_error : BorrowMutError → BorrowRefusal
refusal_of_error (writes.Dropped e) = Dropped e.created_at
refusal_of_error (writes.AlreadyBorrowed e) = BeingRead e
refusal_of_error (writes.AlreadyBorrowedMut e) = BeingWritten e.borrowed_mut_at

module _ {T : Type 0} where
  abbrev pub read_refused : Refused BorrowError → Answer T
  read_refused (refused.Borrow e) = BorrowRefused (refusal_of_read_error e)
  read_refused (refused.Store e) = refuses e

  abbrev pub end_refused : Refused BorrowMutError → Answer T
  end_refused (refused.Borrow e) = BorrowRefused (refusal_of_error e)
  end_refused (refused.Store e) = refuses e

  -- the answer to a making of a value
  abbrev pub make_answer : Result GenerationalPointer (Refusal T) → Answer T
  make_answer (Ok b) = Made b
  make_answer (Err r) = refuses r.cause

  abbrev pub box_answer : Result (GenerationalBox T) (Refusal T) → Answer T
  box_answer (Ok b) = Made (pointer_of b)
  box_answer (Err r) = refuses r.cause

  -- the answer to a making of a reference
  abbrev pub reference_answer : Result GenerationalPointer (Refused BorrowError) → Answer T
  reference_answer (Ok b) = Made b
  reference_answer (Err e) = read_refused e

  abbrev pub reference_box_answer : Result (GenerationalBox T) (Refused BorrowError) → Answer T
  reference_box_answer (Ok b) = Made (pointer_of b)
  reference_box_answer (Err e) = read_refused e

  -- the answer to a read, and to a write
  abbrev pub read_answer : Result Guard (Refused BorrowError) → Answer T
  read_answer (Ok g) = Reads g
  read_answer (Err e) = read_refused e

  abbrev pub write_answer : Result (WriteGuard T) (Refused BorrowMutError) → Answer T
  write_answer (Ok g) = Writes g.guard g.value
  write_answer (Err e) = end_refused e

  -- the answer to a read, and to a write, under its condition
  abbrev pub free_read_answer : Result Guard StoreError → Answer T
  free_read_answer (Ok g) = Reads g
  free_read_answer (Err e) = refuses e

  abbrev pub free_write_answer : Result (WriteGuard T) StoreError → Answer T
  free_write_answer (Ok g) = Writes g.guard g.value
  free_write_answer (Err e) = refuses e

  -- the answer to a release of a writer
  abbrev pub back_answer : {U : Type 0} → Result U T → Answer T
  back_answer (Ok u) = Done
  back_answer (Err v) = Back v

  -- the answer to an end, and to a change of a reference
  abbrev pub end_answer : {U : Type 0} → Result U (Refused BorrowMutError) → Answer T
  end_answer (Ok u) = Done
  end_answer (Err e) = end_refused e

  -- the answer to a making of an owner, and to its release
  abbrev pub owner_answer : Result OwnerName StoreError → Answer T
  owner_answer (Ok o) = Owned o
  owner_answer (Err e) = refuses e

  abbrev pub release_answer : {U V : Type 0} → Result U (V × Refused BorrowMutError) → Answer T
  release_answer (Ok u) = Done
  release_answer (Err e) = end_refused e.1

  -- the value of a content and at a name, unless a writer has it; the value that a reader's guard
  -- opens, if the state knows the guard
  abbrev pub value_of : Option (Content T) → Option T
  value_of (Some (Here v readers)) = Some v
  value_of _ = None

  abbrev pub value_at : State T → Name → Option T
  value_at S m = value_of (content_at S m)

  abbrev pub value_behind : State T → Guard → Option T
  value_behind S g = if knows_reader S g then value_at S g.cell else None
