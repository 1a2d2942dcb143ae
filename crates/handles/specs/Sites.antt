-- The locations that were passed to a table, and which of them a handle has.
use Rattle.std.specs.Prelude.{◌≡◌, ℕ, Bool, List, Option, None, Some, if◌then◌else◌, nat_eq, slice_get, take}
use Rattle.generational_errors.specs.Texts.{same_location}
use Rattle.generational_errors.specs.declared.error.Location.{Location}
use Rattle.handles.specs.declared.handle.Handle.{Handle}

-- all locations, each at a site, and how many of the sites are published
pub record SiteState : Type 0 where
  pub all : List Location
  pub told : ℕ

-- the locations that are published
abbrev pub told_in : SiteState → List Location
told_in s = take s.told s.all

module _ {T K : Type 0} where
  -- where a handle's value was made, according to the table with this number: nothing for another table's
  -- handle
  abbrev pub told_at : ℕ → List Location → Handle T K → Option Location
  told_at number sites h = if nat_eq h.store number then slice_get sites h.site else None

-- a location with the same letters, line and column is published
abbrev pub TellsLocation : Option Location → Location → Type 0
TellsLocation told here = (l : Location) × (told ≡ Some l) × (same_location here l ≡ Bool.true)
