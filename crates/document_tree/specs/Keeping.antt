-- What holds of a document's store and of its parts.
use Rattle.std.specs.Prelude.{◌≡◌, ◌≢◌, ◌<◌, ℕ, zero, suc, List, Option, None, Some, length, slice_index_or}
use Rattle.generational_core.specs.Seeing.{value_in}
use Rattle.generational_core.specs.State.{State}
use Rattle.generational_core.specs.declared.boxes.GenerationalBoxId.{GenerationalBoxId}
use Rattle.generational_errors.specs.declared.error.Location.{Location}
use Rattle.generational_laws.specs.PlainStores.{IsSimple}
use Rattle.handles.specs.Handles.{nowhere}
use Rattle.document_tree.specs.Parts.{too_many}
use Rattle.document_tree.specs.declared.part.Part.{Part}

-- so many things, and no more, have a property
abbrev pub without_one : {X : Type 0} → (X → Type 0) → X → X → Type 0
without_one P x y = P y × (y ≢ x)

abbrev pub AreExactly : {X : Type 0} → ℕ → (X → Type 0) → Type 0
AreExactly {X} zero P = (x : X) → P x → ⊥
AreExactly {X} (suc n) P = (x : X) × P x × AreExactly n (without_one P x)

-- the key in the cell of an id
abbrev pub key_in : State ℕ → GenerationalBoxId → Option ℕ
key_in S id = value_in S (record { id = id; created_at = nowhere })

-- an id is of a place that refers to the part under a key
abbrev pub Leads : State ℕ → ℕ → GenerationalBoxId → Type 0
Leads S key id = key_in S id ≡ Some key

module _ {T : Type 0} where
  -- how many places refer to a part, by its count; none if there is no part
  abbrev pub places_of : Option (Part T) → ℕ
  places_of None = 0
  places_of (Some part) = part.places

  -- a part was added at a location of the document's, and has a place
  abbrev pub IsTold : List Location → Option (Part T) → Type 0
  IsTold sites None = Unit {0}
  IsTold sites (Some part) = (part.site < length sites) × (0 < part.places)

  -- each place refers to a part, and each part counts the places that refer to it
  pub record IsDocumentKept (S : State ℕ) (parts : List (Option (Part T))) (sites : List Location) : Type 0 where
    pub simple : IsSimple S
    pub small : (id : GenerationalBoxId) (key : ℕ) → Leads S key id → id.slot < too_many
    pub counted : (key : ℕ) → AreExactly (places_of (slice_index_or parts key None)) (Leads S key)
    pub told : (key : ℕ) → IsTold sites (slice_index_or parts key None)
