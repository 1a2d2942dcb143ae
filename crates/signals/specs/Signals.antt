-- A signal as its box, the answers to makings of signals, and what boxes of the same value see.
use Rattle.std.specs.Prelude.{◌≡◌, Result, Ok, Err, Some}
use Rattle.generational_core.specs.Answers.{pointer_of, read_refused}
use Rattle.generational_core.specs.Borrowing.{reach}
use Rattle.generational_core.specs.Machine.{Answer}
use Rattle.generational_core.specs.Machine.Answer.{Made}
use Rattle.generational_core.specs.Machine.Answer.{Refused as refuses}
use Rattle.generational_core.specs.Seeing.{value_in}
use Rattle.generational_core.specs.State.{State}
use Rattle.generational_core.specs.declared.boxes.GenerationalBox.{GenerationalBox}
use Rattle.generational_core.specs.declared.boxes.GenerationalPointer.{GenerationalPointer}
use Rattle.generational_errors.specs.declared.error.BorrowError.{BorrowError}
use Rattle.generational_errors.specs.declared.error.Refusal.{Refusal}
use Rattle.generational_errors.specs.declared.error.Refused.{Refused}
use Rattle.signals.specs.declared.signal.Signal.{Signal}

module _ {T : Type 0} where
  -- a signal's box, and that box without its element type
  abbrev pub raw_box : Signal T → GenerationalBox T
  raw_box s = s.raw

  abbrev pub signal_pointer : Signal T → GenerationalPointer
  signal_pointer s = pointer_of (raw_box s)

  -- the answer to a making of a signal, and of an alias
  abbrev pub signal_answer : Result (Signal T) (Refusal T) → Answer T
  signal_answer (Ok s) = Made (signal_pointer s)
  signal_answer (Err r) = refuses r.cause

  abbrev pub alias_answer : Result (Signal T) (Refused BorrowError) → Answer T
  alias_answer (Ok s) = Made (signal_pointer s)
  alias_answer (Err e) = read_refused e

  -- in R each box that reaches what a box reaches in S sees a value
  abbrev pub AllSee : State T → GenerationalPointer → T → State T → Type 0
  AllSee S b v R = (c : GenerationalPointer) → reach S c ≡ reach S b → value_in R c ≡ Some v
