-- Parts: one with a place more or less, and whether each key has one.
use Rattle.std.specs.Prelude.{ℕ, Bool, ◌+◌, ◌-◌, List, Option, None, Some, if◌then◌else◌, is_some, nat_lt}
use Rattle.std.specs.List.{list_all}
use Rattle.document_tree.specs.declared.part.Part.{Part}

-- no part has a key, and no place a slot, from this one on
abbrev pub too_many : ℕ
too_many = 4294967295

module _ {T : Type 0} where
  -- a part that another place refers to
  abbrev pub met : Part T → Part T
  met part = record part { places = part.places + 1 }

  -- what is left of a part that a place leaves: nothing, if it was the last
  abbrev pub left : Part T → Option (Part T)
  left part = if nat_lt 1 part.places then Some (record part { places = part.places - 1 }) else None

  -- whether each key has a part: none is vacant
  abbrev pub is_full : List (Option (Part T)) → Bool
  is_full parts = list_all is_some parts
