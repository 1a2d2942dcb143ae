-- Slots as they are packed.
use Rattle.std.specs.Prelude.{◌≡◌, ℕ, ◌+◌, ◌<◌, List, [], ◌∷◌, ◌++◌, IfSome, Some, length, slice_get, take}
use Rattle.std.specs.Prelude.{◌⊎◌}
use Rattle.generational_errors.specs.declared.error.Location.{Location}
use Rattle.generational_core.specs.Cells.{location_of}
use Rattle.generational_core.specs.declared.rows.BaseRow.{BaseRow}
use Rattle.store_cells.specs.Entry.{Entry, cell_of}
use Rattle.store_rows.specs.Packed.{unpack, unpack_all, whole_in, whole_of}
use Rattle.store_rows.specs.declared.packed.PackedSlot.{PackedSlot}
use Rattle.store_rows.specs.declared.packed.PackedSlot.TheVariants as packed
use Rattle.store_slots.specs.SlotRows.{entry_rows, rows_from}

-- All slots are packed: the packed slots represent their rows, and all whole rows are theirs.
pub record ArePacked {T : Type 0} (number : ℕ) (entries : List (Entry T)) (whole : List BaseRow)
    (slots : List (PackedSlot × Location)) : Type 0 where
  pub all : whole_of slots ≡ length whole
  pub rows : unpack_all number whole 0 slots ≡ rows_from number 0 entries

-- A slot is packed in few bytes, which represent its rows without a whole one.
pub record IsSmall {T : Type 0} (slot : ℕ) (p : PackedSlot × Location) (e : Entry T) : Type 0 where
  pub none : whole_in p.0 ≡ 0
  pub rows : (number : ℕ) (whole : List BaseRow)
      → unpack number whole slot p ≡ entry_rows number slot e

-- A slot is packed, and maybe whole rows are appended, which are its own.
pub record IsPacked {T : Type 0} (number slot : ℕ) (e : Entry T) (whole whole_after : List BaseRow)
    (p : PackedSlot × Location) : Type 0 where
  pub more : List BaseRow
  pub grows : whole_after ≡ whole ++ more
  pub many : whole_in p.0 ≡ length more
  pub rows : unpack number more slot p ≡ entry_rows number slot e

-- Another slot is packed after those before it, and the slots after it are unchanged.
pub record Packs {T : Type 0} (number slot : ℕ) (e : Entry T) (whole : List BaseRow)
    (slots : List (PackedSlot × Location)) (whole_after : List BaseRow)
    (slots_after : List (PackedSlot × Location)) : Type 0 where
  pub packed : PackedSlot × Location
  pub is : IsPacked number slot e whole whole_after packed
  pub here : take (slot + 1) slots_after ≡ take slot slots ++ packed ∷ []
  pub rest : (i : ℕ) → slot < i → slice_get slots_after i ≡ slice_get slots i

-- a slot's cell, if there is one, was made there
abbrev pub WasMadeIn : {T : Type 0} → Entry T → Location → Type 0
WasMadeIn e l = IfSome (location_of (cell_of e.kept)) (λ k. l ≡ k)

-- a slot like it was packed in an earlier state, and all of them
abbrev pub IsPastOf : {T : Type 0} → Entry T → PackedSlot × Location → Type 0
IsPastOf e (packed.Value g, l) = g ≡ e.generation → WasMadeIn e l
IsPastOf e (packed.Shared g, l) = g ≡ e.generation → WasMadeIn e l
IsPastOf e p = Unit {0}

abbrev pub ArePastOf : {T : Type 0} → List (Entry T) → List (PackedSlot × Location) → Type 0
ArePastOf entries slots = (slot : ℕ) → IfSome (slice_get entries slot)
    (λ e. IfSome (slice_get slots slot) (λ p. IsPastOf e p))

-- a packed slot describes this slot's cell, if it describes one
abbrev pub IsOf : {T : Type 0} → Entry T → PackedSlot × Location → Type 0
IsOf e (packed.Value g, l) = (g ≡ e.generation) × WasMadeIn e l
IsOf e (packed.Shared g, l) = (g ≡ e.generation) × WasMadeIn e l
IsOf e p = Unit {0}

-- each packed slot is like it was before, or describes the slot's cell
abbrev pub AreRenewed : {T : Type 0} → List (Entry T) → List (PackedSlot × Location)
    → List (PackedSlot × Location) → Type 0
AreRenewed {T} entries old slots = (slot : ℕ) (p : PackedSlot × Location) → slice_get slots slot ≡ Some p
    → (slice_get old slot ≡ Some p) ⊎ ((e : Entry T) × (slice_get entries slot ≡ Some e) × IsOf e p)
