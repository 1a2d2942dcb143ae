-- The rows that packed slots represent.
use Rattle.std.specs.Prelude.{ℕ, ◌+◌, List, [], ◌∷◌, ◌++◌, take, drop}
use Rattle.generational_errors.specs.declared.error.Location.{Location}
use Rattle.generational_core.specs.declared.rows.BaseRow.{BaseRow}
use Rattle.generational_core.specs.declared.rows.BaseRow.TheVariants as row
use Rattle.store_rows.specs.declared.packed.PackedSlot.{PackedSlot}
use Rattle.store_rows.specs.declared.packed.PackedSlot.TheVariants as packed

-- how many whole rows a slot has
abbrev pub whole_in : PackedSlot → ℕ
whole_in (packed.Whole n) = n
whole_in p = 0

-- and how many these have together, each with where its cell was made
abbrev pub whole_of : List (PackedSlot × Location) → ℕ
whole_of [] = 0
whole_of (e ∷ slots) = whole_in e.0 + whole_of slots

module _ (number : ℕ) where
  -- the rows of the slot with this number, if these are the next whole ones
  abbrev pub unpack : List BaseRow → ℕ → PackedSlot × Location → List BaseRow
  unpack whole slot (packed.Free g, l) = row.Slot slot g ∷ []
  unpack whole slot (packed.Value g, l) =
      row.Slot slot g ∷ row.Value (record { store = number; slot = slot; generation = g }) l ∷ []
  unpack whole slot (packed.Shared g, l) =
      row.Slot slot g ∷ row.Shared (record { store = number; slot = slot; generation = g }) l ∷ []
  unpack whole slot (packed.Whole n, l) = take n whole

  -- the rows of these slots in order, from the one with this number on
  abbrev pub unpack_all : List BaseRow → ℕ → List (PackedSlot × Location) → List BaseRow
  unpack_all whole slot [] = []
  unpack_all whole slot (e ∷ slots) =
      unpack whole slot e ++ unpack_all (drop (whole_in e.0) whole) (slot + 1) slots
