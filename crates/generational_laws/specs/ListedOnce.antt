-- Owners' lists in which each name is once.
use Rattle.std.specs.Prelude.{◌≡◌, ◌≢◌, true, false, Some}
use Rattle.std.specs.List.{IsDistinct}
use Rattle.generational_core.specs.Machine.{OwnerName, ownership}
use Rattle.generational_core.specs.Names.{Name, among, is_name}
use Rattle.generational_core.specs.State.{State, Ownership}

module _ {T : Type 0} where
  -- no name is twice in an owner's list, and none is in the lists of two owners
  pub record AreListedOnce (S : State T) : Type 0 where
    pub once : (o : OwnerName) (h : Ownership) → ownership S o ≡ Some h
        → IsDistinct is_name h.names
    pub apart : (o p : OwnerName) (h k : Ownership) (n : Name) → o ≢ p → ownership S o ≡ Some h
        → ownership S p ≡ Some k → among h.names n ≡ true → among k.names n ≡ false
