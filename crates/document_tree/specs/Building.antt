-- The places of a store that are listed once each, and the parts that come to keys of their own.
use Rattle.std.specs.Prelude.{◌≡◌, ◌≢◌, ◌<◌, ℕ, Bool, List, Option, None, Some, false, is_some, slice_get, slice_index_or, true}
use Rattle.generational_core.specs.State.{State}
use Rattle.generational_core.specs.declared.boxes.GenerationalBoxId.{GenerationalBoxId}
use Rattle.generational_errors.specs.declared.error.Location.{Location}
use Rattle.location_list.specs.Locations.{IsAt}
use Rattle.document_tree.specs.Keeping.{AreExactly, Leads}
use Rattle.document_tree.specs.Taking.{part_row}
use Rattle.document_tree.specs.declared.building.Spot.{Spot}
use Rattle.document_tree.specs.declared.part.Part.{Part}
use Rattle.document_tree.specs.declared.parts.DocumentPart.{DocumentPart}

-- each is a place with the index that it refers to, and no two are one place
pub record ArePlacesNoted (S : State ℕ) (spots : List Spot) (flags : List Bool) : Type 0 where
  pub live : (k : ℕ) (m : Spot) → slice_get spots k ≡ Some m → Leads S m.part m.place.id
  pub apart : (j k : ℕ) (m n : Spot) → slice_get spots j ≡ Some m → slice_get spots k ≡ Some n
      → m.place.id.slot ≡ n.place.id.slot → j ≡ k
  pub seen : (k : ℕ) (m : Spot) → slice_get spots k ≡ Some m → slice_index_or flags m.place.id.slot false ≡ true
  pub only : (slot : ℕ) → slice_index_or flags slot false ≡ true
      → (k : ℕ) × (m : Spot) × (slice_get spots k ≡ Some m) × (m.place.id.slot ≡ slot)

-- no two are one place
abbrev pub HaveOwnPlaces : List Spot → Type 0
HaveOwnPlaces spots = (j k : ℕ) (m n : Spot) → slice_get spots j ≡ Some m → slice_get spots k ≡ Some n
    → m.place.id ≡ n.place.id → j ≡ k

-- these are all places
pub record AreSpots (S : State ℕ) (spots : List Spot) : Type 0 where
  pub live : (k : ℕ) (m : Spot) → slice_get spots k ≡ Some m → Leads S m.part m.place.id
  pub apart : HaveOwnPlaces spots
  pub every : (id : GenerationalBoxId) (index : ℕ) → Leads S index id
      → (k : ℕ) × (m : Spot) × (slice_get spots k ≡ Some m) × (m.place.id ≡ id)

-- one of the first spots is of this place, and refers to this index
abbrev pub IsSpotAmong : List Spot → ℕ → ℕ → GenerationalBoxId → Type 0
IsSpotAmong spots n index id = (k : ℕ) × (m : Spot) × (k < n) × (slice_get spots k ≡ Some m)
    × (m.part ≡ index) × (m.place.id ≡ id)

-- how many of the first spots refer to each index
abbrev pub AreSpotsCounted : List Spot → ℕ → List ℕ → Type 0
AreSpotsCounted spots n counts = (index : ℕ) → AreExactly (slice_index_or counts index 0) (IsSpotAmong spots n index)

module _ {T : Type 0} where
  -- each spot refers to a part
  abbrev pub HaveParts : List (Option (DocumentPart T)) → List Spot → Type 0
  HaveParts rows spots = (k : ℕ) (m : Spot) → slice_get spots k ≡ Some m → is_some (part_row rows m.part) ≡ true

  -- each of the first parts has a place
  abbrev pub AreUsed : List (Option (DocumentPart T)) → List ℕ → ℕ → Type 0
  AreUsed rows counts n = (index : ℕ) (r : DocumentPart T) → index < n → part_row rows index ≡ Some r
      → 0 < slice_index_or counts index 0

  -- each of the first parts has the site of the location where it was added
  abbrev pub AreSited : List Location → List (Option (DocumentPart T)) → List ℕ → ℕ → Type 0
  AreSited all rows sites n = (index : ℕ) (r : DocumentPart T) → index < n → part_row rows index ≡ Some r
      → IsAt all (slice_index_or sites index 0) r.created_at

  -- a part came to a key, with its number of places and its site
  pub record IsAtKey (r : DocumentPart T) (count at key : ℕ) (parts : List (Option (Part T))) : Type 0 where
    pub part : Part T
    pub there : slice_index_or parts key None ≡ Some part
    pub content : part.content ≡ r.content
    pub children : part.children ≡ r.children
    pub places : part.places ≡ count
    pub site : part.site ≡ at

  -- a part, if it is one, came to a key that was vacant
  abbrev pub IsPartPut : List (Option (Part T)) → Option (DocumentPart T) → ℕ → ℕ → ℕ → List (Option (Part T)) → Type 0
  IsPartPut old None count at key new = new ≡ old
  IsPartPut old (Some r) count at key new = (slice_index_or old key None ≡ None) × IsAtKey r count at key new
      × ((other : ℕ) → other ≢ key → slice_index_or new other None ≡ slice_index_or old other None)

  -- the first parts are at keys of their own, and there are no others
  pub record ArePut (rows : List (Option (DocumentPart T))) (counts sites keys : List ℕ)
      (parts : List (Option (Part T))) (n : ℕ) : Type 0 where
    pub put : (index : ℕ) (r : DocumentPart T) → index < n → part_row rows index ≡ Some r
        → IsAtKey r (slice_index_or counts index 0) (slice_index_or sites index 0) (slice_index_or keys index 0) parts
    pub only : (key : ℕ) (part : Part T) → slice_index_or parts key None ≡ Some part
        → (index : ℕ) × (r : DocumentPart T) × (index < n) × (part_row rows index ≡ Some r)
        × (slice_index_or keys index 0 ≡ key)
    pub apart : (i j : ℕ) (r q : DocumentPart T) → i < n → j < n → part_row rows i ≡ Some r
        → part_row rows j ≡ Some q → slice_index_or keys i 0 ≡ slice_index_or keys j 0 → i ≡ j
