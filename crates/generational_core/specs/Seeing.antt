-- What a read of a box would see, and which calls leave that unchanged.
use Rattle.std.specs.Prelude.{◌≡◌, ◌≢◌, false, List, [], Option, None, Some}
use Rattle.generational_core.specs.declared.boxes.GenerationalPointer.{GenerationalPointer}
use Rattle.generational_core.specs.Names.{Name, among}
use Rattle.generational_core.specs.State.{State}
use Rattle.generational_core.specs.Boxes.{name_of}
use Rattle.generational_core.specs.Borrowing.{reach}
use Rattle.generational_core.specs.Cells.{Cell}
use Rattle.generational_core.specs.Cells.Cell.{Value}
use Rattle.generational_core.specs.Cells.Content.{Here}
use Rattle.generational_core.specs.Machine.{Action, own_cell, own_name}
use Rattle.generational_core.specs.Machine.Action.{ReleaseOwner, Read, Write, ReleaseWriter}
use Rattle.generational_core.specs.Machine.Action.{SetValue}
use Rattle.generational_core.specs.Machine.Action.{End, Point}
use Rattle.generational_core.specs.Conditions.{names_under}
use Rattle.generational_core.specs.Answers.{value_at}

module _ {T : Type 0} where
  -- the value at what was reached, and the one that a box reaches, unless a writer has it
  abbrev pub value_reached : State T → Option Name → Option T
  value_reached S None = None
  value_reached S (Some m) = value_at S m

  unfoldable pub value_in : State T → GenerationalPointer → Option T
  value_in S b = value_reached S (reach S b)

  -- the value of a cell that isn't shared, if nothing there is borrowed
  abbrev pub unborrowed_value : Option (Cell T) → Option T
  unborrowed_value (Some (Value (Here v []) l)) = Some v
  unborrowed_value _ = None

  -- the value that a box can return when it is removed
  unfoldable pub value_to_take : State T → GenerationalPointer → Option T
  value_to_take S b = unborrowed_value (own_cell S b.id)

  -- the names that a call ends
  abbrev pub ending : State T → Action T → List Name
  ending S (End b) = own_name S b
  ending S (ReleaseOwner o) = names_under S.owners o.key
  ending S _ = []

  -- a call turns the Ref at a name to another cell
  abbrev pub Turns : Action T → Name → Type 0
  Turns (Point a b) n = name_of a ≡ n
  Turns _ n = ⊥

  -- a call lends the value at a name to a writer, or takes it back from one
  abbrev pub Lends : State T → Action T → Name → Type 0
  Lends S (Write b l) m = reach S b ≡ Some m
  Lends S (ReleaseWriter g v) m = g.cell ≡ m
  Lends S _ m = ⊥

  -- a call begins a borrow of the value at a name
  abbrev pub Borrows : State T → Action T → Name → Type 0
  Borrows S (Read b l) m = reach S b ≡ Some m
  Borrows S (Write b l) m = reach S b ≡ Some m
  Borrows S _ m = ⊥

  -- after a call a box reaches what it reached: the call neither ends the box nor points it elsewhere
  abbrev pub LeavesBox : State T → Action T → GenerationalPointer → Type 0
  LeavesBox S (End a) b = name_of a ≢ name_of b
  LeavesBox S (ReleaseOwner o) b = among (names_under S.owners o.key) (name_of b) ≡ false
  LeavesBox S (Point a c) b = name_of a ≢ name_of b
  LeavesBox S _ b = Unit {0}

  -- a call leaves the value that a box reaches: it neither begins nor ends a write of it, and doesn't set
  -- it
  abbrev pub LeavesValue : State T → Action T → GenerationalPointer → Type 0
  LeavesValue S (Write a l) b = reach S a ≢ reach S b
  LeavesValue S (ReleaseWriter g v) b = reach S b ≢ Some g.cell
  LeavesValue S (SetValue a v) b = reach S a ≢ reach S b
  LeavesValue S call b = LeavesBox S call b

  -- a call begins no borrow of what a box reaches, and the box still reaches it
  abbrev pub LeavesUnborrowed : State T → Action T → GenerationalPointer → Type 0
  LeavesUnborrowed S (Read a l) b = reach S a ≢ reach S b
  LeavesUnborrowed S (Write a l) b = reach S a ≢ reach S b
  LeavesUnborrowed S call b = LeavesBox S call b
