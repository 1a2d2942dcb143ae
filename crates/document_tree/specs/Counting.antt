-- How many places and parts a document has, and how many places refer to a part.
use Rattle.std.specs.Prelude.{◌≡◌, ℕ, Some, is_some, true}
use Rattle.document_tree.specs.Documents.{DocumentState, Place, part_in}
use Rattle.document_tree.specs.Keeping.{AreExactly, key_in}

module _ {T : Type 0} where
  -- so many places are live
  abbrev pub HasPlaces : DocumentState T → ℕ → Type 0
  HasPlaces D n = AreExactly n (λ id. is_some (key_in D.state id) ≡ true)

  -- so many places refer to the part of a place
  abbrev pub PartHasPlaces : DocumentState T → Place → ℕ → Type 0
  PartHasPlaces D p n = AreExactly n (λ id. key_in D.state id ≡ part_in D p)

  -- so many parts have a place
  abbrev pub HasParts : DocumentState T → ℕ → Type 0
  HasParts D n = AreExactly n (λ key. (p : Place) × (part_in D p ≡ Some key))
