-- What a walk over rows yields, of which each has a key and the box of a value.
use Rattle.std.specs.Prelude.{◌≡◌, List, [], ◌∷◌, Option, None, Some, true, is_some}
use Rattle.generational_core.specs.Seeing.{value_in}
use Rattle.generational_core.specs.State.{State}
use Rattle.generational_core.specs.declared.boxes.GenerationalPointer.{GenerationalPointer}

-- a key with its value, if there is one, before others
abbrev pub shown_first : {E V : Type 0} → E → Option V → List (E × V) → List (E × V)
shown_first e None rest = rest
shown_first e (Some v) rest = (e, v) ∷ rest

module _ {E V R : Type 0} (key : R → E) (box : R → GenerationalPointer) (S : State V) where
  -- the keys of rows with the values that their boxes see, in order
  abbrev pub shown_rows : List R → List (E × V)
  shown_rows [] = []
  shown_rows (r ∷ rows) = shown_first (key r) (value_in S (box r)) (shown_rows rows)

-- each row's box has a value
abbrev pub AreSeen : {V R : Type 0} → (R → GenerationalPointer) → State V → List R → Type 0
AreSeen box S [] = Unit {0}
AreSeen box S (r ∷ rows) = (is_some (value_in S (box r)) ≡ true) × AreSeen box S rows

module _ {E V W : Type 0} where
  -- a key with two values, if there is a first, before others
  abbrev pub joined_first : E → Option V → W → List (E × V × W) → List (E × V × W)
  joined_first e None w rest = rest
  joined_first e (Some v) w rest = (e, v, w) ∷ rest

  -- keys with values, each with what is found for its key, if there is something, in order
  abbrev pub joined_rows : (E → Option V) → List (E × W) → List (E × V × W)
  joined_rows see [] = []
  joined_rows see (p ∷ rest) = joined_first p.0 (see p.0) p.1 (joined_rows see rest)
