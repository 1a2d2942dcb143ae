-- When a value is unchanged: no writer has it, and no call sets it.
use Rattle.generational_core.specs.Cells.{Cell, is_shared, location_of}
use Rattle.std.specs.Prelude.{◌≡◌, true, Option, None, Some, is_some, option_map, if◌then◌else◌}
use Rattle.std.specs.FinMap as map
use Rattle.generational_errors.specs.declared.error.Location.{Location}
use Rattle.generational_core.specs.declared.boxes.GenerationalBoxId.{GenerationalBoxId}
use Rattle.generational_core.specs.declared.boxes.GenerationalPointer.{GenerationalPointer}
use Rattle.generational_core.specs.Names.{Name}
use Rattle.generational_core.specs.State.{State}
use Rattle.generational_core.specs.Borrowing.{reach}
use Rattle.generational_core.specs.Machine.{Action, own_cell}
use Rattle.generational_core.specs.Machine.Action.{SetValue}
use Rattle.generational_core.specs.Answers.{value_at}

module _ {T : Type 0} where
  -- the location at which a live cell was made
  abbrev pub location_at : State T → Name → Option Location
  location_at S m = location_of (map.get S.cells m)

  -- the location of a cell that has a box: a Shared one has none
  abbrev pub boxed_at : Option (Cell T) → Option Location
  boxed_at cell = if is_shared cell then None else location_of cell

  -- the box with an id, exactly if a live box of the store has it
  abbrev pub box_with : State T → GenerationalBoxId → Option GenerationalPointer
  box_with S id = option_map (λ l. record { id = id; created_at = l }) (boxed_at (own_cell S id))

  -- a call of the machine sets the value at a name
  abbrev pub Sets : State T → Action T → Name → Type 0
  Sets S (SetValue b v) m = reach S b ≡ Some m
  Sets S _ m = ⊥

  -- a box reaches a name at which no writer has the value
  pub record IsUnwritten (b : GenerationalPointer) (m : Name) (S : State T) : Type 0 where
    pub reaches : reach S b ≡ Some m
    pub here : is_some (value_at S m) ≡ true
