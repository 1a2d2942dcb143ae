-- Calls as a history records them: how, and which of them no borrow hinders.
use Rattle.std.specs.Prelude.{ℕ, Bool, true, false, not, ◌&&◌, [], Option, None, Some}
use Rattle.generational_core.specs.declared.boxes.GenerationalBoxId.{GenerationalBoxId}
use Rattle.generational_core.specs.declared.boxes.GenerationalPointer.{GenerationalPointer}
use Rattle.generational_core.specs.declared.owner.OwnerId.{OwnerId}
use Rattle.generational_core.specs.declared.steps.StepCall.{StepCall}
use Rattle.generational_core.specs.declared.steps.StepCall.TheVariants as call
use Rattle.generational_core.specs.Names.{Name}
use Rattle.generational_core.specs.Cells.{Cell, Content, content_of}
use Rattle.generational_core.specs.Cells.Content.{Here}
use Rattle.generational_core.specs.Cells.Cell.{Ref}
use Rattle.generational_core.specs.Boxes.{id_of}
use Rattle.generational_core.specs.State.{State}
use Rattle.generational_core.specs.Borrowing.{BorrowRefusal, reach, refusal_to_read}
use Rattle.generational_core.specs.Borrowing.{refusal_to_write}
use Rattle.generational_core.specs.Borrowing.BorrowRefusal.{Dropped}
use Rattle.generational_core.specs.Ending.{hindrance_to}
use Rattle.generational_core.specs.Machine.{Action, Answer, OwnerName, act, cell_at, is_known}
use Rattle.generational_core.specs.Machine.{own_cell, own_name}
use Rattle.generational_core.specs.Machine.Action.{Make, MakeShared, Refer, NewOwner, CloneOwner}
use Rattle.generational_core.specs.Machine.Action.{ReleaseOwner, Read, Write, ReleaseReader}
use Rattle.generational_core.specs.Machine.Action.{ReleaseWriter, SetValue, End, Point}
use Rattle.generational_core.specs.Machine.Answer.{BorrowRefused, Back}
use Rattle.generational_core.specs.Steps.{no_names}

-- an owner's id, and the owner that it refers to
abbrev pub id_of_owner : OwnerName → OwnerId
id_of_owner o = record { store = o.store; key = o.key }

abbrev pub owner_of : OwnerId → OwnerName
owner_of id = record { store = id.store; key = id.key }

-- whether an error, if there is one, is a borrow's
abbrev pub tells_of_borrow : Option BorrowRefusal → Bool
tells_of_borrow None = false
tells_of_borrow (Some (Dropped l)) = false
tells_of_borrow _ = true

module _ {T : Type 0} where
  -- the id of what a cell names in the store with this number, and what a box's own cell names
  abbrev pub target_in : ℕ → Option (Cell T) → Option GenerationalBoxId
  target_in number (Some (Ref m l)) = Some (id_of number m)
  target_in number _ = None

  abbrev pub target_of : State T → GenerationalPointer → Option GenerationalBoxId
  target_of S b = target_in S.number (own_cell S b.id)

  -- how a call is recorded, if it is: without its value, a guard by its ticket alone, and an owner
  -- by its id
  abbrev pub recorded_as : Action T → Option StepCall
  recorded_as (Make None v l) = Some (call.Leak l)
  recorded_as (Make (Some o) v l) = Some (call.Insert (id_of_owner o) l)
  recorded_as (MakeShared None v l) = Some (call.LeakRc l)
  recorded_as (MakeShared (Some o) v l) = Some (call.InsertRc (id_of_owner o) l)
  recorded_as (Refer None b) = Some (call.LeakReference b)
  recorded_as (Refer (Some o) b) = Some (call.InsertReference (id_of_owner o) b)
  recorded_as NewOwner = Some call.Owner
  recorded_as (CloneOwner o) = Some (call.CloneOwner (id_of_owner o))
  recorded_as (ReleaseOwner o) = Some (call.ReleaseOwner (id_of_owner o))
  recorded_as (Read b l) = Some (call.Read b l)
  recorded_as (Write b l) = Some (call.Write b l)
  recorded_as (ReleaseReader g) = Some (call.ReleaseRead g.ticket)
  recorded_as (ReleaseWriter g v) = Some (call.ReleaseWrite g.ticket)
  recorded_as (SetValue b v) = Some (call.Set b)
  recorded_as (End b) = Some (call.ManuallyDrop b)
  recorded_as (Point a b) = Some (call.PointTo a b)
  recorded_as _ = None

  -- whether an answer is an error of a borrow; a value that was to be set comes back for no other reason
  abbrev pub is_setting : Action T → Bool
  is_setting (SetValue b v) = true
  is_setting _ = false

  abbrev pub is_hindered : Action T → Answer T → Bool
  is_hindered action (BorrowRefused t) = tells_of_borrow (Some t)
  is_hindered action (Back v) = is_setting action
  is_hindered action _ = false

  -- whether another value may be set at what was reached: nothing, or a value without borrows
  abbrev pub may_set : Option Name → Option (Content T) → Bool
  may_set None c = true
  may_set (Some m) (Some (Here v [])) = true
  may_set (Some m) _ = false

  -- whether the machine's answer to a call that passes no value isn't an error of a borrow
  abbrev pub meets_no_borrow : State T → Action T → Bool
  meets_no_borrow S action = not (is_hindered action (act S action no_names).0)

  -- whether a call's answer isn't an error of a borrow
  abbrev pub is_ready : State T → StepCall → Bool
  is_ready S (call.LeakReference b) = not (tells_of_borrow (refusal_to_read S b))
  is_ready S (call.InsertReference o b) =
      not (is_known S (Some (owner_of o)) && tells_of_borrow (refusal_to_read S b))
  is_ready S (call.Read b l) = not (tells_of_borrow (refusal_to_read S b))
  is_ready S (call.Write b l) = not (tells_of_borrow (refusal_to_write S b))
  is_ready S (call.Set b) = may_set (reach S b) (content_of (cell_at S (reach S b)))
  is_ready S (call.ManuallyDrop b) = not (tells_of_borrow (hindrance_to S (own_name S b)))
  is_ready S (call.PointTo a b) = meets_no_borrow S (Point a b)
  is_ready S (call.ReleaseOwner o) = meets_no_borrow S (ReleaseOwner (owner_of o))
  is_ready S _ = true
