-- Values by handles of one table: what each handle has, and all of them in the order of the slots.
use Rattle.std.specs.Prelude.{ℕ, ◌+◌, List, [], ◌∷◌, Option, None, Some, if◌then◌else◌, nat_eq}
use Rattle.std.specs.Prelude.{option_map, slice_index_or}
use Rattle.std.specs.List.{cons_option, filter_map}
use Rattle.handles.specs.declared.handle.Handle.{Handle}
use Rattle.handles.specs.declared.map.Row.{Row}
use Rattle.handles.specs.declared.map.Row.TheVariants.{Vacant, Held}
use Rattle.handles.specs.Handles.{at_slot, slot_in}

-- the number of the table, and what each slot holds
pub record MapState (V : Type 0) : Type 0 where
  pub number : ℕ
  pub rows : List (Row V)

module _ {V : Type 0} where
  -- what a slot holds
  abbrev pub row_at : List (Row V) → ℕ → Row V
  row_at rows slot = slice_index_or rows slot Vacant

  -- the value of a row, if it is of this generation
  abbrev pub held : Row V → ℕ → Option V
  held Vacant g = None
  held (Held site generation v) g = if nat_eq generation g then Some v else None

  -- a row with its value replaced
  abbrev pub refilled : Row V → V → Row V
  refilled Vacant w = Vacant
  refilled (Held site generation v) w = Held site generation w

  -- how many rows hold a value
  abbrev pub count : List (Row V) → ℕ
  count [] = 0
  count (Vacant ∷ rows) = count rows
  count (Held site generation v ∷ rows) = count rows + 1

  module _ {T K : Type 0} where
    -- what a handle has: its value, or nothing
    abbrev pub value_of : MapState V → Handle T K → Option V
    value_of m h =
        if nat_eq h.store m.number then held (row_at m.rows (slot_in h)) h.generation else None

    -- the handle for which a slot's row holds a value
    abbrev pub handle_of : ℕ → ℕ → Row V → Option (Handle T K)
    handle_of number slot Vacant = None
    handle_of number slot (Held site generation v) = Some (at_slot number slot site generation)

    -- the handles of rows that hold a value, with it, in order, from a slot on
    abbrev pub listed_from : ℕ → ℕ → List (Row V) → List (Handle T K × V)
    listed_from number slot [] = []
    listed_from number slot (Vacant ∷ rows) = listed_from number (slot + 1) rows
    listed_from number slot (Held site generation v ∷ rows) =
        (at_slot number slot site generation, v)
        ∷ listed_from number (slot + 1) rows

    abbrev pub listed : MapState V → List (Handle T K × V)
    listed m = listed_from m.number 0 m.rows

-- the handles that have a value in each of two maps, with both values, in the order of their slots
abbrev pub both : {V W T K : Type 0} → MapState V → MapState W → List (Handle T K × (V × W))
both a b = filter_map (λ p. option_map (λ w. (p.0, (p.1, w))) (value_of b p.0)) (listed a)

-- the same of two rows of one slot: one handle, or none
abbrev pub both_held : {V W T K : Type 0} → ℕ → ℕ → Row V → Row W → List (Handle T K × (V × W))
both_held number slot Vacant q = []
both_held number slot (Held site generation v) q =
    cons_option (option_map (λ w. (at_slot number slot site generation, (v, w))) (held q generation)) []
