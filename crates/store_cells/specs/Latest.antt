-- The borrow that began last, and what holds of the slots while it is noted.
use Rattle.std.specs.Prelude.{◌≡◌, ℕ, Bool, true, false, ◌&&◌, nat_eq, if◌then◌else◌, List, []}
use Rattle.std.specs.Prelude.{◌∷◌, Option, Some, None, slice_get}
use Rattle.std.specs.List.{list_any}
use Rattle.generational_core.specs.declared.borrow.Borrow.{Borrow}
use Rattle.store_parts.specs.Table.{list_at, no_index}
use Rattle.store_cells.specs.declared.entry.StorageEntry.{StorageEntry}
use Rattle.store_cells.specs.Data.{SlotData, data_in}
use Rattle.store_cells.specs.Data.{SlotData as slot}
use Rattle.store_cells.specs.declared.latest.LastBorrow.{LastBorrow}
use Rattle.store_cells.specs.declared.latest.Noted.{Noted}
use Rattle.store_cells.specs.declared.latest.Noted.TheVariants as noted

abbrev pub is_noted : Noted → Bool
is_noted noted.Nobody = false
is_noted _ = true

abbrev pub is_reader : Noted → Bool
is_reader noted.Reader = true
is_reader _ = false

abbrev pub is_writer : Noted → Bool
is_writer noted.Writer = true
is_writer _ = false

-- the note when no borrow is noted any more
abbrev pub cleared : LastBorrow → LastBorrow
cleared r = record r { noted = noted.Nobody }

-- whether a borrow of the k-th slot's cell is noted
abbrev pub is_noted_at : LastBorrow → ℕ → Bool
is_noted_at r k = is_noted r.noted && nat_eq r.slot k

-- that borrow, if there is one
abbrev pub noted_at : LastBorrow → ℕ → List Borrow
noted_at r k = if is_noted_at r k then r.borrow ∷ [] else []

-- the borrows of the k-th slot's cell: those at its index in the table, or the noted one, if it has no
-- index
abbrev pub borrows_of : LastBorrow → List (List Borrow) → ℕ → ℕ → List Borrow
borrows_of r lists k i = if nat_eq i no_index then noted_at r k else list_at lists i

module _ {T : Type 0} where
  -- whether a borrow of a slot with this content may be noted: a reader's, which is the only one or
  -- listed among the others, or that of a writer that isn't listed
  abbrev pub may_note : LastBorrow → List (List Borrow) → SlotData T → Bool
  may_note r lists (slot.Data c v) = is_reader r.noted
  may_note r lists (slot.Read c i v) =
      is_reader r.noted && list_any (λ b. nat_eq b.ticket r.borrow.ticket) (list_at lists i)
  may_note r lists (slot.Lent c i) = is_writer r.noted && nat_eq i no_index
  may_note r lists _ = false

  abbrev pub IsNoted : LastBorrow → List (List Borrow) → Option (StorageEntry T) → Type 0
  IsNoted r lists None = ⊥
  IsNoted r lists (Some e) =
      (e.generation ≡ r.generation) × (may_note r lists (data_in e.content) ≡ true)

  -- if the k-th slot's value is lent without an index, its writer is noted
  abbrev pub HasWriter : LastBorrow → ℕ → SlotData T → Type 0
  HasWriter r k (slot.Lent c i) = i ≡ no_index → is_noted_at r k ≡ true
  HasWriter r k _ = Unit {0}

  abbrev pub HasWriterAt : LastBorrow → ℕ → Option (StorageEntry T) → Type 0
  HasWriterAt r k None = Unit {0}
  HasWriterAt r k (Some e) = HasWriter r k (data_in e.content)

-- What holds of a store's slots and the noted borrow.
pub record AreBorrowsNoted {T : Type 0} (r : LastBorrow) (lists : List (List Borrow))
    (es : List (StorageEntry T)) : Type 0 where
  -- it is at the cell that it names
  pub noted : is_noted r.noted ≡ true → IsNoted r lists (slice_get es r.slot)
  -- a value that is lent without an index has the noted writer
  pub written : (k : ℕ) → HasWriterAt r k (slice_get es k)
