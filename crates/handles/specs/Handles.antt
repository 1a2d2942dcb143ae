-- Handles: the id of each, and which are of one value.
use Rattle.std.specs.Prelude.{◌≡◌, ◌≢◌, ℕ, Bool, List, [], nat_eq}
use Rattle.std.specs.Ordering.{eq_of_both, nat_cmp, on, then_cmp}
use Rattle.std.specs.declared.cmp.Ordering.{Ordering}
use Rattle.generational_core.specs.Boxes.{hashed_id}
use Rattle.generational_core.specs.declared.boxes.GenerationalBoxId.{GenerationalBoxId}
use Rattle.generational_core.specs.declared.boxes.GenerationalPointer.{GenerationalPointer}
use Rattle.generational_errors.specs.declared.error.Location.{Location}
use Rattle.handles.specs.declared.handle.Handle.{Handle}

-- a location without content
abbrev pub nowhere : Location
nowhere = record { file = record { ref_ptr = (0, 0); now = [] }; line = 0; column = 0 }

module _ {T K : Type 0} where
  -- the handle of a slot of a table with this number, at a site
  abbrev pub at_slot : ℕ → ℕ → ℕ → ℕ → Handle T K
  at_slot number slot site generation =
      record { store = number; generation = generation; slot = slot; site = site; marker = record {} }

  abbrev pub id_in : Handle T K → GenerationalBoxId
  id_in h = record { store = h.store; slot = h.slot; generation = h.generation }

  -- a handle's box without its element type: what it refers to depends on the id alone
  abbrev pub pointer_in : Handle T K → GenerationalPointer
  pointer_in h = record { id = id_in h; created_at = nowhere }

  abbrev pub slot_in : Handle T K → ℕ
  slot_in h = h.slot

  -- whether two handles are of one value, by their three numbers, and that they are, or are of two
  abbrev pub is_same : Handle T K → Handle T K → Bool
  is_same =
      eq_of_both
      (on (λ h. h.store) nat_eq)
      (eq_of_both (on (λ h. h.slot) nat_eq) (on (λ h. h.generation) nat_eq))

  -- the order of two handles: that of their three numbers
  abbrev pub by_id : Handle T K → Handle T K → Ordering
  by_id =
      then_cmp
      (on (λ h. h.store) nat_cmp)
      (then_cmp (on (λ h. h.slot) nat_cmp) (on (λ h. h.generation) nat_cmp))

  abbrev pub IsSame : Handle T K → Handle T K → Type 0
  IsSame a b = id_in a ≡ id_in b

  abbrev pub IsOther : Handle T K → Handle T K → Type 0
  IsOther a b = id_in a ≢ id_in b

  -- what a handle gives to a hash: its id
  abbrev pub hashed_handle : Handle T K → List (List ℕ)
  hashed_handle h = hashed_id (pointer_in h)
