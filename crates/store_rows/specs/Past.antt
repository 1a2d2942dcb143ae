-- Rows and packed slots of an earlier state, which say where cells were made, as long as these are live.
use Rattle.std.specs.Prelude.{◌≡◌, ℕ, List, ◌++◌, Some, slice_get}
use Rattle.std.specs.List.{AllByRecursion}
use Rattle.std.specs.FinMap as map
use Rattle.generational_errors.specs.declared.error.Location.{Location}
use Rattle.generational_core.specs.declared.rows.BaseRow.{BaseRow}
use Rattle.generational_core.specs.declared.rows.BaseRow.TheVariants as row
use Rattle.generational_core.specs.Boxes.{name_in}
use Rattle.generational_core.specs.Cells.{Cell, location_of}
use Rattle.generational_core.specs.Names.{Name}
use Rattle.generational_core.specs.Plain.{Plain}
use Rattle.generational_core.specs.State.{IsGiven}
use Rattle.store_rows.specs.Packed.{unpack_all}
use Rattle.store_rows.specs.declared.packed.PackedSlot.{PackedSlot}
use Rattle.store_rows.specs.declared.packed.PackedSlot.TheVariants as packed

-- a name was issued, and its cell, if it is still live, was made there
abbrev pub WasMadeAt : Plain → Name → Location → Type 0
WasMadeAt P n l = IsGiven P n
    × ((c : Cell (Unit {0})) → map.get P.cells n ≡ Some c → location_of (Some c) ≡ Some l)

-- a row, and rows, of a state that came before this one
abbrev pub IsPast : Plain → BaseRow → Type 0
IsPast P (row.Value id l) = WasMadeAt P (name_in id) l
IsPast P (row.Shared id l) = WasMadeAt P (name_in id) l
IsPast P r = Unit {0}

abbrev pub ArePast : Plain → List BaseRow → Type 0
ArePast P rows = AllByRecursion (IsPast P) rows

-- a packed slot, and packed slots, of such a state
abbrev pub IsPastSlot : Plain → ℕ → PackedSlot × Location → Type 0
IsPastSlot P slot (packed.Value g, l) = WasMadeAt P (record { slot = slot; generation = g }) l
IsPastSlot P slot (packed.Shared g, l) = WasMadeAt P (record { slot = slot; generation = g }) l
IsPastSlot P slot e = Unit {0}

abbrev pub ArePastSlots : Plain → List (PackedSlot × Location) → Type 0
ArePastSlots P slots = (slot : ℕ) (e : PackedSlot × Location)
    → slice_get slots slot ≡ Some e → IsPastSlot P slot e

-- the slots are those of packed rows
pub record AreSlotsOf (rows : List BaseRow) (slots : List (PackedSlot × Location)) : Type 0 where
  pub number : ℕ
  pub whole : List BaseRow
  pub owners : List BaseRow
  pub are : rows ≡ unpack_all number whole 0 slots ++ owners
