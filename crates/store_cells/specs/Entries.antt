-- The slots of a store with the table of their borrows, and what holds of the two.
use Rattle.std.specs.Prelude.{◌≡◌, ◌≢◌, ◌≤◌, ◌<◌, ◌+◌, ℕ, suc, List, [], ◌∷◌, Bool, not}
use Rattle.std.specs.Prelude.{true, false, nat_eq, length, slice_get, Option, None, Some}
use Rattle.std.specs.Prelude.{if◌then◌else◌, slice_set, ◌++◌}
use Rattle.std.specs.FinSet as set
use Rattle.generational_core.specs.declared.borrow.Borrow.{Borrow}
use Rattle.generational_errors.specs.declared.error.Location.{Location}
use Rattle.generational_core.specs.Cells.Content.{Here, Lent}
use Rattle.store_cells.specs.declared.entry.StorageEntry.{StorageEntry}
use Rattle.store_cells.specs.Data.{SlotData, data_in}
use Rattle.store_cells.specs.Data.{SlotData as slot}
use Rattle.store_cells.specs.declared.entry.CellKind.TheVariants as kind
use Rattle.store_cells.specs.declared.entry.CellKind.{CellKind}
use Rattle.store_cells.specs.declared.entry.EntryDetails.{EntryDetails}
use Rattle.generational_core.specs.Names.{Name}
use Rattle.store_cells.specs.Entry.{Entry, Kept}
use Rattle.store_cells.specs.Entry.Kept.{Empty, Live, Refers}
use Rattle.store_cells.specs.Latest.{borrows_of, AreBorrowsNoted}
use Rattle.store_cells.specs.declared.latest.LastBorrow.{LastBorrow}
use Rattle.store_parts.specs.Lists.{how_many}
use Rattle.store_parts.specs.Table.{Table, list_at, no_index, IsUsed}

-- the slots, and for how many there is room
pub record EntryList (T : Type 0) : Type 0 where
  pub slots : List (Entry T)
  pub rooms : ℕ

module _ {T : Type 0} where
  -- where the borrows of a slot's cell are in the table
  abbrev pub index_of : SlotData T → ℕ
  index_of (slot.Read k i v) = i
  index_of (slot.Lent k i) = i
  index_of _ = no_index

  -- whose the value is, even if it is lent
  abbrev pub kind_of : SlotData T → Option CellKind
  kind_of (slot.Data k v) = Some k
  kind_of (slot.Read k i v) = Some k
  kind_of (slot.Lent k i) = Some k
  kind_of _ = None

  -- whether it is a value of its own without borrows
  abbrev pub is_unborrowed_data : SlotData T → Bool
  is_unborrowed_data (slot.Data kind.Value v) = true
  is_unborrowed_data _ = false

  -- the value, unless it's lent
  abbrev pub data_value : SlotData T → Option T
  data_value (slot.Data k v) = Some v
  data_value (slot.Read k i v) = Some v
  data_value _ = None

  -- the value at which no reader is listed
  abbrev pub unread_in : SlotData T → Option T
  unread_in (slot.Data k v) = Some v
  unread_in _ = None

  -- such a value, lent without an index
  abbrev pub lent_data : SlotData T → SlotData T
  lent_data (slot.Data k v) = slot.Lent k no_index
  lent_data d = d

  -- a lent value that is put back
  abbrev pub full_data : T → SlotData T → SlotData T
  full_data v (slot.Lent k i) = slot.Data k v
  full_data v d = d

  abbrev pub is_lent_data : SlotData T → Bool
  is_lent_data (slot.Lent k i) = true
  is_lent_data _ = false

  -- such a value, with readers at an index
  abbrev pub read_data : ℕ → SlotData T → SlotData T
  read_data x (slot.Data k v) = slot.Read k x v
  read_data x d = d

  -- a value without readers, if their index is none
  abbrev pub unread_data : SlotData T → SlotData T
  unread_data (slot.Read k i v) = if nat_eq i no_index then slot.Data k v else slot.Read k i v
  unread_data d = d

  -- listed readers have an index
  abbrev pub HasListIndex : SlotData T → Type 0
  HasListIndex (slot.Read k i v) = i ≢ no_index
  HasListIndex _ = Unit {0}

  -- what a reference names
  abbrev pub target_name_of : SlotData T → Option Name
  target_name_of (slot.Reference s g) = Some (record { slot = s; generation = g })
  target_name_of _ = None

  -- what a box of this name reaches if its cell is such
  abbrev pub lead_of : SlotData T → Name → Option Name
  lead_of (slot.Data kind.Value v) n = Some n
  lead_of (slot.Read kind.Value i v) n = Some n
  lead_of (slot.Lent kind.Value i) n = Some n
  lead_of (slot.Reference s g) n = Some (record { slot = s; generation = g })
  lead_of _ n = None

  -- a cell without borrows
  abbrev pub IsUnborrowed : SlotData T → Type 0
  IsUnborrowed (slot.Data k v) = Unit {0}
  IsUnborrowed (slot.Reference s g) = Unit {0}
  IsUnborrowed _ = ⊥

  -- a value that is lent to the first of these borrows; lent to nobody there is none
  abbrev pub lent_kept : CellKind → List Borrow → Location → Kept T
  lent_kept k [] l = Empty
  lent_kept k (w ∷ bs) l = Live k (Lent w) l

  -- what a slot has whose cell has these borrows
  abbrev pub kept_data : List Borrow → Location → SlotData T → Kept T
  kept_data bs l slot.Empty = Empty
  kept_data bs l (slot.Data k v) = Live k (Here v bs) l
  kept_data bs l (slot.Read k i v) = Live k (Here v bs) l
  kept_data bs l (slot.Lent k i) = lent_kept k bs l
  kept_data bs l (slot.Reference s g) = Refers (record { slot = s; generation = g }) l

  -- a slot with these borrows
  abbrev pub entry_with : List Borrow → StorageEntry T → EntryDetails → Entry T
  entry_with bs e d =
      record {
        generation = e.generation;
        kept = kept_data bs d.created_at (data_in e.content);
        references = d.references;
      }

  abbrev pub entry_of : LastBorrow → List (List Borrow) → ℕ → StorageEntry T → EntryDetails
      → Entry T
  entry_of r lists k e d = entry_with (borrows_of r lists k (index_of (data_in e.content))) e d

  -- the slots from the k-th on, each with its borrows and its details
  unfoldable pub entries_from : LastBorrow → List (List Borrow) → ℕ → List (StorageEntry T)
      → List EntryDetails → List (Entry T)
  entries_from r lists k (e ∷ es) (d ∷ ds) =
      entry_of r lists k e d ∷ entries_from r lists (suc k) es ds
  entries_from r lists k _ _ = []

  abbrev pub entries_of : LastBorrow → List (List Borrow) → List (StorageEntry T)
      → List EntryDetails → List (Entry T)
  entries_of r lists es ds = entries_from r lists 0 es ds

  -- the index of a slot, if there is one
  abbrev pub index_in : Option (StorageEntry T) → ℕ
  index_in None = no_index
  index_in (Some e) = index_of (data_in e.content)

  abbrev pub HasListIndexIn : Option (StorageEntry T) → Type 0
  HasListIndexIn None = Unit {0}
  HasListIndexIn (Some e) = HasListIndex (data_in e.content)

  abbrev pub has_index : StorageEntry T → Bool
  has_index e = not (nat_eq (index_of (data_in e.content)) no_index)

-- What holds of a store's slots and the table of their borrows.
pub record AreIndexed {T : Type 0} (t : Table) (es : List (StorageEntry T)) : Type 0 where
  -- borrows are at each index of a slot, and no two slots have the same
  pub used : (k : ℕ) → index_in (slice_get es k) ≢ no_index → IsUsed t (index_in (slice_get es k))
  pub apart : (j k : ℕ) → index_in (slice_get es j) ≢ no_index
      → index_in (slice_get es j) ≡ index_in (slice_get es k) → j ≡ k
  -- a slot whose value has listed readers has an index
  pub listed : (k : ℕ) → HasListIndexIn (slice_get es k)
  -- the indexes of slots and the free ones are all that there are, as many as slots at most
  pub counted : set.len t.free + how_many has_index es ≡ length t.lists
  pub few : length t.lists ≤ length es

-- what it takes to list the noted borrow
pub record IsListable {T : Type 0} (r : LastBorrow) (t : Table) (es : List (StorageEntry T)) : Type 0
  where
    pub indexed : AreIndexed t es
    pub noted : AreBorrowsNoted r t.lists es
    pub room : length es ≤ t.rooms
    pub small : length es < no_index

-- the noted borrow is listed, and the model doesn't change
pub record IsListed {T : Type 0} (r r' : LastBorrow) (t t' : Table)
    (es es' : List (StorageEntry T)) : Type 0 where
  pub slots : (ds : List EntryDetails) → length ds ≡ length es
      → entries_of r' t'.lists es' ds ≡ entries_of r t.lists es ds
  pub indexed : AreIndexed t' es'
  pub noted : AreBorrowsNoted r' t'.lists es'
  pub rooms : t'.rooms ≡ t.rooms
  pub same : length es' ≡ length es

-- a table in which a reader is added to those at an index, if there is one
abbrev pub listed_beside : Borrow → ℕ → Table → Table
listed_beside b x t =
    if nat_eq x no_index then t else record t {
      lists = slice_set t.lists x (list_at t.lists x ++ b ∷ []);
    }

-- there is room for this many slots, except for no index beyond the last
pub record AreRoomy (room count capacity detailed borrowed : ℕ) : Type 0 where
  pub filled : count ≤ room
  pub entries : room ≤ capacity
  pub details : room ≤ detailed
  pub borrows : room ≤ borrowed
  pub indexes : room < no_index
