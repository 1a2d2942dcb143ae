-- Rows of components by ids, and rows of entities at the sites where they were made.
use Rattle.std.specs.Prelude.{◌≡◌, ◌≤◌, ◌+◌, ◌&&◌, ℕ, Bool, List, [], ◌∷◌, Option, None, Some, true, is_some}
use Rattle.std.specs.Prelude.{if◌then◌else◌, map, nat_eq, slice_get}
use Rattle.std.specs.List.Sorted.{IsStrictlyIncreasing}
use Rattle.generational_core.specs.Keeping.{box_with}
use Rattle.generational_core.specs.State.{State}
use Rattle.generational_core.specs.declared.boxes.GenerationalBoxId.{GenerationalBoxId}
use Rattle.generational_core.specs.declared.boxes.GenerationalPointer.{GenerationalPointer}
use Rattle.generational_errors.specs.declared.error.Location.{Location}
use Rattle.handles.specs.Handles.{id_in}
use Rattle.handles.specs.Maps.{MapState, row_at}
use Rattle.handles.specs.declared.map.Row.TheVariants.{Held}
use Rattle.location_list.specs.Locations.{IsAt}
use Rattle.entity_table.specs.Tables.{Entity, TableState, element_in}
use Rattle.entity_table.specs.declared.parts.RowFault.{RowFault}
use Rattle.entity_table.specs.declared.parts.RowFault.TheVariants.{Stale, Order, OutOfMemory}

-- each row is a live cell's, at a site of the location where that was made
abbrev pub AreEntitiesSited : {T : Type 0} → State T → List Location → MapState (Unit {0}) → Type 0
AreEntitiesSited S all rows = (slot site generation : ℕ) → row_at rows.rows slot ≡ Held site generation tt
    → (b : GenerationalPointer) × (box_with S b.id ≡ Some b) × (b.id.slot ≡ slot)
    × (b.id.generation ≡ generation) × IsAt all site b.created_at

module _ {T C : Type 0} where
  -- whether a row is of an entity
  abbrev pub is_row_of : GenerationalBoxId × C → Entity T → Bool
  is_row_of r e = nat_eq r.0.store e.store && (nat_eq r.0.slot e.slot && nat_eq r.0.generation e.generation)

  -- the component that rows list for an entity: that of its first row
  abbrev pub component_told : List (GenerationalBoxId × C) → Entity T → Option C
  component_told [] e = None
  component_told (r ∷ rows) e = if is_row_of r e then Some r.1 else component_told rows e

  -- rows are those of a table's components: each is of a live entity, and their slots rise
  pub record AreRows (t : TableState T) (rows : List (GenerationalBoxId × C)) : Type 0 where
    pub live : (row : ℕ) (r : GenerationalBoxId × C) → slice_get rows row ≡ Some r
        → (e : Entity T) × (id_in e ≡ r.0) × (is_some (element_in t e) ≡ true)
    pub ordered : IsStrictlyIncreasing (map (λ r. r.0.slot) rows)

  -- what is said of rows is so
  abbrev pub IsRowFault : TableState T → List (GenerationalBoxId × C) → RowFault → Type 0
  IsRowFault t rows (Stale row) = (r : GenerationalBoxId × C) × (slice_get rows row ≡ Some r)
      × ((e : Entity T) → id_in e ≡ r.0 → element_in t e ≡ None)
  IsRowFault t rows (Order row) = (before : ℕ) × (q : GenerationalBoxId × C) × (r : GenerationalBoxId × C)
      × (row ≡ before + 1) × (slice_get rows before ≡ Some q) × (slice_get rows row ≡ Some r)
      × (r.0.slot ≤ q.0.slot)
  IsRowFault t rows OutOfMemory = Unit {0}
