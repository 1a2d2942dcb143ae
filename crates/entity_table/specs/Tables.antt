-- The model of a table of entities.
use Rattle.std.specs.Prelude.{◌≡◌, ◌⊎◌, ◌<◌, ℕ, List, Option, None, Some, Bool, true, false, is_some, map, slice_get}
use Rattle.std.specs.List.Sorted.{IsStrictlyIncreasing}
use Rattle.generational_core.specs.Boxes.{name_of}
use Rattle.generational_core.specs.Seeing.{value_in}
use Rattle.generational_core.specs.State.{State, IsGiven}
use Rattle.generational_errors.specs.declared.error.Location.{Location}
use Rattle.handles.specs.Handles.{IsSame, pointer_in, slot_in}
use Rattle.handles.specs.Sites.{told_at}
use Rattle.handles.specs.declared.handle.Handle.{Handle}
use Rattle.entity_table.specs.Walking.{shown_rows}
use Rattle.entity_table.specs.declared.entity.EntityKind.{EntityKind}

abbrev pub Entity : Type 0 → Type 0
Entity T = Handle T EntityKind

-- the state of the store, the live entities in the order of their slots, and the locations at which
-- entities were made
pub record TableState (T : Type 0) : Type 0 where
  pub state : State T
  pub rows : List (Entity T)
  pub sites : List Location

module _ {T : Type 0} where
  -- an entity's element, or None once it was removed
  abbrev pub element_in : TableState T → Entity T → Option T
  element_in t e = value_in t.state (pointer_in e)

  -- the live entities with their elements, in the order of their slots
  abbrev pub elements_in : TableState T → List (Entity T × T)
  elements_in t = shown_rows (λ e. e) pointer_in t.state t.rows

  -- a handle that the table has issued
  abbrev pub WasSpawned : TableState T → Entity T → Type 0
  WasSpawned t e = IsGiven t.state (name_of (pointer_in e))

  -- where an entity was made, by the table's locations: None for another table's
  abbrev pub created_at : TableState T → Entity T → Option Location
  created_at t e = told_at t.state.number t.sites e

  -- the table keeps each location of an entity
  abbrev pub KeepsEntityLocations : TableState T → TableState T → Type 0
  KeepsEntityLocations old new =
      (e : Entity T) (l : Location) → created_at old e ≡ Some l → created_at new e ≡ Some l

  -- each row is a live entity, each live entity is a row, and their slots rise
  pub record IsDense (t : TableState T) : Type 0 where
    pub live : (row : ℕ) (e : Entity T) → slice_get t.rows row ≡ Some e
        → is_some (element_in t e) ≡ true
    pub listed : (e : Entity T) → is_some (element_in t e) ≡ true
        → (row : ℕ) × (f : Entity T) × (slice_get t.rows row ≡ Some f) × IsSame f e
    pub ordered : IsStrictlyIncreasing (map slot_in t.rows)

  -- what is left of an element by a test, which may return so of it
  abbrev pub IsSifted : (T → Bool → Type 0) → T → Option T → Type 0
  IsSifted answers v left =
      ((left ≡ Some v) × answers v true) ⊎ ((left ≡ None) × answers v false)

  -- what is left of a table if the slots before one were tested: each entity as it was, or gone if it
  -- failed, and those of the tested slots have passed
  pub record Sifts (answers : T → Bool → Type 0) (old new : TableState T) (slot : ℕ) : Type 0 where
    pub left : (e : Entity T) (v : T) → element_in old e ≡ Some v
        → (element_in new e ≡ Some v) ⊎ ((element_in new e ≡ None) × answers v false)
    pub none : (e : Entity T) → element_in old e ≡ None → element_in new e ≡ None
    pub kept : (e : Entity T) → WasSpawned old e → WasSpawned new e
    pub told : (e : Entity T) → created_at new e ≡ created_at old e
    pub passed : (e : Entity T) (v : T) → element_in new e ≡ Some v → slot_in e < slot → answers v true
