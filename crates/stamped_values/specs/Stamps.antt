-- Values with the stamp that the list had when they were put there.
use Rattle.std.specs.Prelude.{◌≡◌, ◌≤◌, ℕ, List, Option, None, Some, get_or, if◌then◌else◌, nat_eq}
use Rattle.stamped_values.specs.declared.values.Stamped.{Stamped}

module _ {T : Type 0} where
  -- the value of a slot, if it has one
  abbrev pub stamped_at : List (Option T) → ℕ → Option T
  stamped_at values s = get_or values s None

  -- a row's value, if the row has this stamp
  abbrev pub value_by : ℕ → Option (Stamped T) → Option T
  value_by stamp None = None
  value_by stamp (Some r) = if nat_eq r.stamp stamp then Some r.value else None

  -- no row has a later stamp
  abbrev pub AreStamped : ℕ → List (Option (Stamped T)) → Type 0
  AreStamped stamp rows = (s : ℕ) (r : Stamped T) → get_or rows s None ≡ Some r → r.stamp ≤ stamp
