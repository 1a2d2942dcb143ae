-- The records of owners that a store keeps, as the machine sees them.
use Rattle.std.specs.Prelude.{◌≡◌, Bool, true, false, nat_eq, if◌then◌else◌, is_some, IsSome, ℕ}
use Rattle.std.specs.Prelude.{◌<◌, ◌≤◌, Option, None, Some}
use Rattle.std.specs.List.{IsDistinct}
use Rattle.std.specs.FinMap as map
use Rattle.generational_errors.specs.declared.error.StoreError.{StoreError}
use Rattle.generational_errors.specs.declared.error.StoreError.TheVariants.{UnknownOwner, OutOfMemory}
use Rattle.generational_errors.specs.declared.error.StoreError.TheVariants.{NumbersExhausted}
use Rattle.generational_core.specs.Names.{Name, change, is_name}
use Rattle.generational_core.specs.Machine.{OwnerName}
use Rattle.generational_core.specs.State.{Ownership, Owners}
use Rattle.generational_core.specs.State.{one_listed}

-- the record of an owner, if it is of a store with this number and these records
abbrev pub record_of : ℕ → Owners → OwnerName → Option Ownership
record_of number owners o = if nat_eq o.store number then map.get owners o.key else None

-- whether there is one
abbrev pub knows : ℕ → Owners → OwnerName → Bool
knows number owners o = is_some (record_of number owners o)

-- whether a call that goes by this owner, or by none, may go on
abbrev pub permits : ℕ → Owners → Option OwnerName → Bool
permits number owners None = true
permits number owners (Some o) = knows number owners o

-- why a box isn't put on a list: the owner isn't known, or there is no memory for one that is
abbrev pub IsRefusal : ℕ → Owners → Option OwnerName → StoreError → Type 0
IsRefusal number owners o UnknownOwner = permits number owners o ≡ false
IsRefusal number owners o OutOfMemory =
    IsSome o × (permits number owners o ≡ true)
IsRefusal number owners o NumbersExhausted = ⊥

-- the records with a name at the end of the owner's list
abbrev pub add_to_list_in : Owners → Option OwnerName → Name → Owners
add_to_list_in owners None n = owners
add_to_list_in owners (Some o) n = change owners o.key (one_listed n)

-- Each record represents at least one owner value, and no more than tickets were issued. Its key was one
-- of them. No box is twice on its list.
abbrev pub IsOwnerCounted : ℕ → ℕ → Option Ownership → Type 0
IsOwnerCounted next key None = Unit {0}
IsOwnerCounted next key (Some h) =
    (0 < h.count) × (h.count ≤ next) × (key < next) × IsDistinct is_name h.names

pub record AreOwnersCounted (next : ℕ) (owners : Owners) : Type 0 where
  pub each : (key : ℕ) → IsOwnerCounted next key (map.get owners key)
