-- Components after a sweep: those of live entities, as they were; and after a test.
use Rattle.std.specs.Prelude.{◌≡◌, ◌⊎◌, ◌<◌, ℕ, Bool, None, Some, true, false, is_some}
use Rattle.handles.specs.Handles.{slot_in}
use Rattle.handles.specs.Maps.{MapState}
use Rattle.entity_table.specs.Components.{component_in}
use Rattle.entity_table.specs.Tables.{Entity, TableState, element_in}

module _ {T C : Type 0} where
  -- what is left of components if the slots before one were swept: a live entity has what it had, one
  -- of these slots that isn't live has none, and none comes
  pub record Sweeps (table : TableState T) (old new : MapState C) (slot : ℕ) : Type 0 where
    pub kept : (e : Entity T) → is_some (element_in table e) ≡ true
        → component_in new e ≡ component_in old e
    pub gone : (e : Entity T) → element_in table e ≡ None → slot_in e < slot
        → component_in new e ≡ None
    pub none : (e : Entity T) → component_in old e ≡ None → component_in new e ≡ None

-- what is left of components if the slots before one were tested: each as it was, or gone if it failed,
-- and those of the tested slots have passed
pub record SiftsComponents (T : Type 0) {C : Type 0} (answers : C → Bool → Type 0) (old new : MapState C) (slot : ℕ)
    : Type 0 where
  pub left : (e : Entity T) (c : C) → component_in old e ≡ Some c
      → (component_in new e ≡ Some c) ⊎ ((component_in new e ≡ None) × answers c false)
  pub none : (e : Entity T) → component_in old e ≡ None → component_in new e ≡ None
  pub passed : (e : Entity T) (c : C) → component_in new e ≡ Some c → slot_in e < slot → answers c true
