-- Locations in a list, by their letters, even if the texts are elsewhere in memory.
use Rattle.std.specs.Prelude.{◌≡◌, ℕ, Bool, List, [], ◌∷◌, ◌++◌, Some, slice_get, if◌then◌else◌}
use Rattle.std.specs.List.{list_any}
use Rattle.generational_errors.specs.Texts.{same_location}
use Rattle.generational_errors.specs.declared.error.Location.{Location}
use Rattle.location_list.specs.declared.list.LocationKey.{LocationKey}

-- the location of these parts
abbrev pub key_location : LocationKey → Location
key_location k = record { file = k.file; line = k.line; column = k.column }

-- whether a location with the same letters, line and column is among these
abbrev pub is_among : List Location → Location → Bool
is_among list at = list_any (same_location at) list

-- the list with this location at its end, if it isn't among them
abbrev pub with_location : List Location → Location → List Location
with_location list at = if is_among list at then list else list ++ at ∷ []

-- a location with the same letters, line and column has this number
pub record IsAt (list : List Location) (number : ℕ) (at : Location) : Type 0 where
  pub kept : Location
  pub there : slice_get list number ≡ Some kept
  pub alike : same_location at kept ≡ Bool.true
