-- Rows that are left of components after a sweep fit the table that is made again.
use Rattle.std.proofs.Common.{◌≡◌, ◌∙◌, ℕ, List, Option, None, Some, ap, is_some, map, refl, slice_get, true}
use Rattle.std.specs.List.Sorted.{IsStrictlyIncreasing}
use Rattle.entity_table.specs.Components.{component_in}
use Rattle.entity_table.specs.Parts.{AreRows}
use Rattle.entity_table.specs.Tables.{Entity, TableState, element_in}
use Rattle.generational_core.specs.Seeing.{value_in}
use Rattle.generational_core.specs.declared.boxes.GenerationalBoxId.{GenerationalBoxId}
use Rattle.handles.specs.Handles.{id_in, pointer_in}
use Rattle.handles.specs.Maps.{MapState}

-- what has a component after a sweep is live
pub swept_live : {X Y : Type 0} (element : Option X) (component : Option Y) (c : Y)
    → (element ≡ None → component ≡ None) → component ≡ Some c → is_some element ≡ true
swept_live (Some x) component c gone has = refl
swept_live None component c gone has = cc (gone refl)

module _ {T C : Type 0} (old new : TableState T) (names : MapState C) (rows : List (GenerationalBoxId × C)) where
  -- rows of swept components are those of a table whose store has the same state
  pub rows_fit : new.state ≡ old.state
      → ((e : Entity T) → element_in old e ≡ None → component_in names e ≡ None)
      → ((row : ℕ) (r : GenerationalBoxId × C) → slice_get rows row ≡ Some r
      → (e : Entity T) × (id_in e ≡ r.0) × (component_in names e ≡ Some r.1))
      → IsStrictlyIncreasing (map (λ r. r.0.slot) rows) → AreRows new rows
  rows_fit same swept each ordered = record {
    live = λ row r is.
        let one = each row r is in
        let live = swept_live (element_in old one.0) (component_in names one.0) r.1 (swept one.0) one.2 in
        (one.0, one.1, ap (λ s. is_some (value_in s (pointer_in one.0))) same ∙ live);
    ordered = ordered;
  }
