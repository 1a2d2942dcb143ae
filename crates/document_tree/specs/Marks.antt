-- Marks of parts, by their keys.
use Rattle.std.specs.Prelude.{◌≡◌, ℕ, Bool, List, Some, false, slice_get, slice_set, true}
use Rattle.document_tree.specs.Documents.{DocumentState, Place, part_in}

-- the part under a key is marked
abbrev pub IsMarked : List Bool → ℕ → Type 0
IsMarked marks key = slice_get marks key ≡ Some true

module _ {T : Type 0} where
  -- a place refers to no part, or to one that is marked
  abbrev pub IsPassed : DocumentState T → List Bool → Place → Type 0
  IsPassed D marks p = (key : ℕ) → part_in D p ≡ Some key → IsMarked marks key

  -- a place's part, which wasn't marked, comes to be
  abbrev pub MarksFirst : DocumentState T → Place → List Bool → List Bool → Type 0
  MarksFirst D p old new = (key : ℕ) × (part_in D p ≡ Some key) × (slice_get old key ≡ Some false)
      × (new ≡ slice_set old key true)
