-- The positions at which a store keeps the records of owners, and the map that they represent.
use Rattle.std.specs.Prelude.{◌≡◌, ◌≤◌, ◌<◌, ℕ, Bool, true, false, nat_eq, if◌then◌else◌, is_some}
use Rattle.std.specs.Prelude.{IsSomeAnd, Option, None, Some, List, [], ◌∷◌, length, slice_get, slice_set}
use Rattle.std.specs.Ordering.{nat_cmp}
use Rattle.std.specs.FinMap as map
use Rattle.std.specs.FinSet as set
use Rattle.generational_core.specs.declared.rows.BaseRow.{BaseRow}
use Rattle.generational_core.specs.Machine.{OwnerName}
use Rattle.generational_core.specs.Rows.{record_rows}
use Rattle.generational_core.specs.State.{Ownership, Owners}

-- a record with its key, and for how many names its list has room
pub record KeyedOwnership : Type 0 where
  pub key : ℕ
  pub ownership : Ownership
  pub rooms : ℕ

-- with another record under the key; with other room
abbrev pub with_ownership : (Ownership → Ownership) → KeyedOwnership → KeyedOwnership
with_ownership f r = record r { ownership = f r.ownership }

abbrev pub with_rooms : ℕ → KeyedOwnership → KeyedOwnership
with_rooms rooms r = record r { rooms = rooms }

-- What is at a position: nothing, or a record.
abbrev pub MaybeRecord : Type 0
MaybeRecord = Option KeyedOwnership

-- the records that are there, with their keys
abbrev pub keyed_ownerships : List MaybeRecord → List (ℕ × Ownership)
keyed_ownerships [] = []
keyed_ownerships (None ∷ records) = keyed_ownerships records
keyed_ownerships (Some r ∷ records) = (r.key, r.ownership) ∷ keyed_ownerships records

-- the records under their keys
unfoldable pub owners_of : List MaybeRecord → Owners
owners_of records = map.from_entries (keyed_ownerships records)

-- the record at a position, if it is there under this key
abbrev pub record_in : ℕ → MaybeRecord → Option Ownership
record_in key None = None
record_in key (Some r) = if nat_eq key r.key then Some r.ownership else None

abbrev pub record_at : ℕ → Option MaybeRecord → Option Ownership
record_at key None = None
record_at key (Some position) = record_in key position

abbrev pub HasRecord : ℕ → Option MaybeRecord → Type 0
HasRecord key position = is_some (record_at key position) ≡ true

-- no key is at two positions
pub record HasDistinctKeys (records : List MaybeRecord) : Type 0 where
  pub one : (key i j : ℕ) → HasRecord key (slice_get records i) → HasRecord key (slice_get records j)
      → i ≡ j

-- the position of the record under a key, if there is one
abbrev pub IsPositionOf : List MaybeRecord → ℕ → Option ℕ → Type 0
IsPositionOf records key None = (i : ℕ) → record_at key (slice_get records i) ≡ None
IsPositionOf records key (Some i) = HasRecord key (slice_get records i)

-- the rows of the record at a position, if there is one
abbrev pub rows_of_record : ℕ → Option MaybeRecord → List BaseRow
rows_of_record number (Some (Some r)) = record_rows number (r.key, r.ownership)
rows_of_record number _ = []

abbrev pub is_vacant : Option MaybeRecord → Bool
is_vacant (Some None) = true
is_vacant _ = false

-- What holds of the positions and of the set of the vacant ones.
pub record AreSoundRecords (vacant : set.FinSet nat_cmp) (rooms : ℕ) (records : List MaybeRecord)
    : Type 0 where
  pub pooled : (k : ℕ) → set.contains vacant k ≡ is_vacant (slice_get records k)
  -- there is room for all of them
  pub roomy : length records ≤ rooms
  pub apart : HasDistinctKeys records

-- a position with a record of which P holds
abbrev pub IsFilledWith : (KeyedOwnership → Type 0) → Option MaybeRecord → Type 0
IsFilledWith P position = IsSomeAnd position (λ kept. IsSomeAnd kept P)

-- a position with a record
abbrev pub IsFilled : Option MaybeRecord → Type 0
IsFilled position = IsFilledWith (λ r. Unit {0}) position

-- a position with a record that has room for another name on its list
abbrev pub HasNameRoom : Option MaybeRecord → Type 0
HasNameRoom position = IsFilledWith (λ r. length r.ownership.names < r.rooms) position

-- the key of the record at a position, and for how many names its list has room
abbrev pub owner_key_in : Option MaybeRecord → ℕ
owner_key_in (Some (Some r)) = r.key
owner_key_in _ = 0

abbrev pub rooms_in : Option MaybeRecord → ℕ
rooms_in (Some (Some r)) = r.rooms
rooms_in _ = 0

-- the records with that at one of them changed by f, if there is one
abbrev pub change_record_if : List MaybeRecord → ℕ → (KeyedOwnership → KeyedOwnership) → Option MaybeRecord → List MaybeRecord
change_record_if records i f (Some (Some r)) = slice_set records i (Some (f r))
change_record_if records i f _ = records

abbrev pub change_record : List MaybeRecord → ℕ → (KeyedOwnership → KeyedOwnership) → List MaybeRecord
change_record records i f = change_record_if records i f (slice_get records i)

-- the records with the names or the count of that at one of them changed by f
abbrev pub change_ownership : List MaybeRecord → ℕ → (Ownership → Ownership) → List MaybeRecord
change_ownership records i f = change_record records i (with_ownership f)

-- the records of owners under their keys, and their positions
pub record KeptOwners : Type 0 where
  pub owners : Owners
  pub records : List MaybeRecord

-- Room was made for another name on the owner's list, if there is an owner: its record is at the position.
abbrev pub IsReserved : KeptOwners → Option OwnerName → Option ℕ → Type 0
IsReserved r None position = position ≡ None
IsReserved r (Some o) None = ⊥
IsReserved r (Some o) (Some i) =
    HasRecord o.key (slice_get r.records i) × HasNameRoom (slice_get r.records i)
