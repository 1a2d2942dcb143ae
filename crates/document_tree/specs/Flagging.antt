-- Flags of slots: those of the places in a list, or below a place.
use Rattle.std.specs.Prelude.{◌≡◌, ◌⊎◌, ℕ, Bool, List, false, is_some, length, slice_index_or, true}
use Rattle.std.specs.List.{All, AllPairs, Contains}
use Rattle.handles.specs.Handles.{IsOther, slot_in}
use Rattle.document_tree.specs.Documents.{DocumentState, Place, part_in, shown_in}

abbrev pub IsFlagged : List Bool → ℕ → Type 0
IsFlagged flags slot = slice_index_or flags slot false ≡ true

module _ {T : Type 0} where
  -- a live place with a property has this slot
  abbrev pub HasSlot : DocumentState T → (Place → Type 0) → ℕ → Type 0
  HasSlot D P slot = (p : Place) × P p × (is_some (part_in D p) ≡ true) × (slot_in p ≡ slot)

  -- flags are of the live places with a property
  pub record AreFlagged (D : DocumentState T) (P : Place → Type 0) (flags : List Bool) : Type 0 where
    pub every : (p : Place) → P p → is_some (part_in D p) ≡ true → IsFlagged flags (slot_in p)
    pub only : (slot : ℕ) → IsFlagged flags slot → HasSlot D P slot

  -- a list has live places, each once, and flags are of these
  pub record AreListed (D : DocumentState T) (places : List Place) (flags : List Bool) : Type 0 where
    pub live : All (λ p. is_some (shown_in D p) ≡ true) places
    pub once : AllPairs IsOther places
    pub flagged : AreFlagged D (Contains places) flags

  -- the slots of the live places with a property are flagged, beside those that were
  pub record Flags (D : DocumentState T) (P : Place → Type 0) (old new : List Bool) : Type 0 where
    pub every : (p : Place) → P p → is_some (part_in D p) ≡ true → IsFlagged new (slot_in p)
    pub only : (slot : ℕ) → IsFlagged new slot → IsFlagged old slot ⊎ HasSlot D P slot
    pub kept : (slot : ℕ) → IsFlagged old slot → IsFlagged new slot
    pub length : length new ≡ length old
