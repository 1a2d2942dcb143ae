-- The rows of slots as they are in a list.
use Rattle.std.specs.Prelude.{◌≡◌, ℕ, ◌+◌, List, [], ◌∷◌, ◌++◌}
use Rattle.std.specs.FinMap as map
use Rattle.std.specs.FinSet as set
use Rattle.generational_core.specs.declared.rows.BaseRow.{BaseRow}
use Rattle.generational_core.specs.declared.rows.BaseRow.TheVariants as row
use Rattle.generational_core.specs.Plain.{Plain, bare_cells}
use Rattle.generational_core.specs.Rows.{cell_rows, read_rows, slot_rows}
use Rattle.generational_core.specs.Slots.{slots_of}
use Rattle.generational_core.specs.State.{State}
use Rattle.store_cells.specs.Entry.{Entry, cell_of}

module _ {T : Type 0} where
  -- a slot, and its live cell with its borrows
  abbrev pub entry_rows : ℕ → ℕ → Entry T → List BaseRow
  entry_rows number slot e =
      row.Slot slot e.generation
      ∷ cell_rows number (record { slot = slot; generation = e.generation }) (cell_of e.kept)

  -- the slots from the i-th on
  abbrev pub rows_from : ℕ → ℕ → List (Entry T) → List BaseRow
  rows_from number i [] = []
  rows_from number i (e ∷ slots) = entry_rows number i e ++ rows_from number (i + 1) slots

  -- the rows of a state's slots
  abbrev pub all_slot_rows : ℕ → State T → List BaseRow
  all_slot_rows number S = slot_rows number S.cells (map.entries (slots_of S))

  -- if there is no cell yet, they are read as the state's cells and issued names, if its generations
  -- begin at 1
  abbrev pub ReadSlots : ℕ → State T → Type 0
  ReadSlots number S = (P : Plain) → S.start ≡ 1 → P.cells ≡ map.empty → P.given ≡ set.empty
      → read_rows P (all_slot_rows number S)
      ≡ record P { cells = bare_cells S.cells; given = S.given }
