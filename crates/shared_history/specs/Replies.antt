-- Which reply of a call is recorded, and what is recorded and counted of it.
use Rattle.std.specs.Prelude.{◌≡◌, ℕ, Bool, true, false, ◌&&◌, nat_eq, List, Option, Some}
use Rattle.std.specs.Prelude.{None, option_map, Result, Ok, Err}
use Rattle.generational_errors.specs.declared.error.BorrowMutError.{BorrowMutError}
use Rattle.generational_errors.specs.declared.error.Refused.{Refused as IsRefused}
use Rattle.generational_errors.specs.declared.error.StoreError.{StoreError}
use Rattle.generational_errors.specs.declared.error.StoreError.TheVariants.{OutOfMemory}
use Rattle.generational_errors.specs.declared.error.StoreError.TheVariants.{NumbersExhausted}
use Rattle.generational_errors.specs.declared.error.StoreError.TheVariants.{UnknownOwner}
use Rattle.generational_core.specs.declared.steps.StepCall.{StepCall}
use Rattle.generational_core.specs.Answers.{end_refused}
use Rattle.generational_core.specs.Boxes.{has_same_id}
use Rattle.generational_errors.specs.Texts.{same_location}
use Rattle.generational_core.specs.Borrowing.BorrowRefusal.{Dropped}
use Rattle.generational_core.specs.declared.boxes.GenerationalBoxId.{GenerationalBoxId}
use Rattle.generational_core.specs.declared.boxes.GenerationalPointer.{GenerationalPointer}
use Rattle.generational_core.specs.declared.owner.OwnerId.{OwnerId}
use Rattle.generational_core.specs.State.{State}
use Rattle.generational_core.specs.StepCalls.{id_of_owner, target_of}
use Rattle.generational_core.specs.Machine.{Action, Answer}
use Rattle.generational_core.specs.Machine.Action.{Make, MakeShared, Refer}
use Rattle.generational_core.specs.Machine.Answer.{Made, Owned, Reads, Writes, Done, Old, Flag}
use Rattle.generational_core.specs.Machine.Answer.{BorrowRefused, Refused}
use Rattle.shared_records.specs.declared.step.Step.{Step}
use Rattle.shared_records.specs.declared.step.StepReply.{StepReply}
use Rattle.shared_records.specs.declared.step.StepReply.TheVariants as reply
use Rattle.shared_records.specs.declared.step.Kind.{Kind}
use Rattle.shared_records.specs.declared.step.Kind.TheVariants as kind
use Rattle.shared_history.specs.Counts.{Counts, raised}
use Rattle.shared_records.specs.Kinds.{step_of}
use Rattle.shared_records.specs.Letters.{AppendsStep}

module _ {T : Type 0} where
  -- how a box that was made is recorded: a shared value's with the cell that it names
  abbrev pub made_reply : Action T → State T → GenerationalPointer → Option StepReply
  made_reply (Make o v l) R b = Some (reply.Made b)
  made_reply (MakeShared o v l) R b = option_map (λ id. reply.MadeShared id b) (target_of R b)
  made_reply (Refer o c) R b = Some (reply.Made b)
  made_reply _ R b = None

  -- How the answer of the machine to a call is recorded, after which its state is R. An error of a borrow
  -- or of memory isn't recorded, and neither is the release of a guard that the store doesn't know.
  abbrev pub recorded_reply : State T → Action T → Answer T → Option StepReply
  recorded_reply R call (Made b) = made_reply call R b
  recorded_reply R call (Owned o) = Some (reply.Owner (id_of_owner o))
  recorded_reply R call (Reads g) = Some (reply.Reader g.ticket)
  recorded_reply R call (Writes g v) = Some (reply.Writer g.ticket)
  recorded_reply R call Done = Some reply.Done
  recorded_reply R call (Old v) = Some reply.Done
  recorded_reply R call (Flag true) = Some reply.Done
  recorded_reply R call (BorrowRefused (Dropped l)) = Some (reply.Dropped l)
  recorded_reply R call (Refused NumbersExhausted) = Some (reply.Store NumbersExhausted)
  recorded_reply R call (Refused UnknownOwner) = Some (reply.Store UnknownOwner)
  recorded_reply R call _ = None

-- the history after a call of this worker: another step, if its reply is recorded
abbrev pub Records : List Step → ℕ → StepCall → Option StepReply → List Step → Type 0
Records steps worker call None after = after ≡ steps
Records steps worker call (Some r) after = AppendsStep steps (step_of worker call r) after

-- the kind of an answer's step, if it is one
abbrev pub answer_kind : {T : Type 0} → Answer T → Option Kind
answer_kind (Made b) = Some kind.Made
answer_kind (Owned o) = Some kind.Made
answer_kind (Reads g) = Some kind.Lent
answer_kind (Writes g v) = Some kind.Lent
answer_kind Done = Some kind.Changed
answer_kind (Old v) = Some kind.Changed
answer_kind (Flag true) = Some kind.Changed
answer_kind (BorrowRefused (Dropped l)) = Some kind.Refused
answer_kind (Refused NumbersExhausted) = Some kind.Refused
answer_kind (Refused UnknownOwner) = Some kind.Refused
answer_kind _ = None

-- a tally after a step of a kind, if there is one
abbrev pub raised_by : Option Kind → Counts → Counts
raised_by None c = c
raised_by (Some k) c = raised k c

-- whether two errors of the store are the same
abbrev pub same_error : StoreError → StoreError → Bool
same_error OutOfMemory OutOfMemory = true
same_error NumbersExhausted NumbersExhausted = true
same_error UnknownOwner UnknownOwner = true
same_error e f = false

-- whether two ids are the same, and two owners', by their numbers
abbrev pub same_id : GenerationalBoxId → GenerationalBoxId → Bool
same_id a b =
    nat_eq a.store b.store && (nat_eq a.slot b.slot && nat_eq a.generation b.generation)

abbrev pub same_owner : OwnerId → OwnerId → Bool
same_owner a b = nat_eq a.store b.store && nat_eq a.key b.key

abbrev pub same_box : GenerationalPointer → GenerationalPointer → Bool
same_box b c = has_same_id b c && same_location b.created_at c.created_at

-- whether two replies are the same, locations by their texts, lines and columns
abbrev pub same_reply : StepReply → StepReply → Bool
same_reply (reply.Made b) (reply.Made c) = same_box b c
same_reply (reply.MadeShared i b) (reply.MadeShared j c) = same_id i j && same_box b c
same_reply (reply.Owner o) (reply.Owner p) = same_owner o p
same_reply (reply.Reader t) (reply.Reader u) = nat_eq t u
same_reply (reply.Writer t) (reply.Writer u) = nat_eq t u
same_reply reply.Done reply.Done = true
same_reply (reply.Dropped l) (reply.Dropped m) = same_location l m
same_reply (reply.Store e) (reply.Store f) = same_error e f
same_reply r s = false

-- whether this reply is recorded
abbrev pub is_recorded : Option StepReply → StepReply → Bool
is_recorded None r = false
is_recorded (Some s) r = same_reply s r

-- what a set returns that replaced this old value
abbrev pub set_answer : {T U : Type 0} → T → Result U (T × IsRefused BorrowMutError) → Answer T
set_answer old (Ok u) = Old old
set_answer old (Err e) = end_refused e.1
