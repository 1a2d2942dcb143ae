-- The signals of scopes in a state, and which scopes keep theirs.
use Rattle.std.specs.Prelude.{◌≡◌, ◌≢◌, List, Some}
use Rattle.generational_core.specs.Machine.{OwnerName, ownership}
use Rattle.generational_core.specs.Names.{Name}
use Rattle.generational_core.specs.State.{State}

module _ {T : Type 0} where
  -- a scope's signals by their names, in the order in which they were made: they are the list of a
  -- record that counts one owner value
  abbrev pub HasSignals : State T → OwnerName → List Name → Type 0
  HasSignals S scope names = ownership S scope ≡ Some (record { names = names; count = 1 })

  -- from S to R each scope keeps its signals; and so does each except one
  abbrev pub LeavesScopes : State T → State T → Type 0
  LeavesScopes S R = (scope : OwnerName) (names : List Name)
      → HasSignals S scope names → HasSignals R scope names

  abbrev pub LeavesOtherScopes : State T → OwnerName → State T → Type 0
  LeavesOtherScopes S one R = (scope : OwnerName) (names : List Name)
      → one ≢ scope → HasSignals S scope names → HasSignals R scope names
