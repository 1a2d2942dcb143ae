-- Rows of boxes in a store: the values that they have, and when each may be read, written and removed.
use Rattle.std.specs.Prelude.{◌≡◌, ◌≢◌, true, List, [], ◌∷◌, Option, None, Some, map}
use Rattle.generational_core.specs.Answers.{pointer_of}
use Rattle.generational_core.specs.Borrowing.{can_write}
use Rattle.generational_core.specs.Boxes.{name_of}
use Rattle.generational_core.specs.Seeing.{value_in}
use Rattle.generational_core.specs.State.{State}
use Rattle.generational_core.specs.declared.boxes.GenerationalBox.{GenerationalBox}
use Rattle.generational_core.specs.declared.boxes.GenerationalPointer.{GenerationalPointer}

abbrev pub Rows : Type 0 → Type 0  -- each row has a box, or is empty
Rows T = List (Option (GenerationalBox T))

abbrev pub HasOtherName : GenerationalPointer → GenerationalPointer → Type 0
HasOtherName a b = name_of a ≢ name_of b

module _ {T : Type 0} where
  -- what a row has in a state: the value that its box sees
  abbrev pub shown_in : State T → Option (GenerationalBox T) → Option T
  shown_in S None = None
  shown_in S (Some b) = value_in S (pointer_of b)

  abbrev pub values_in : State T → Rows T → List (Option T)
  values_in S rows = map (shown_in S) rows

  abbrev pub IsFree : State T → GenerationalPointer → Type 0  -- no borrow stands where it reaches
  IsFree S b = can_write S b ≡ true

  -- each box of the rows is such a one
  abbrev pub EachBox : (GenerationalPointer → Type 0) → Rows T → Type 0
  EachBox P [] = Unit {0}
  EachBox P (None ∷ rows) = EachBox P rows
  EachBox P (Some b ∷ rows) = P (pointer_of b) × EachBox P rows

  -- no two rows have boxes of one name
  abbrev pub AreApart : Rows T → Type 0
  AreApart [] = Unit {0}
  AreApart (None ∷ rows) = AreApart rows
  AreApart (Some b ∷ rows) = EachBox (HasOtherName (pointer_of b)) rows × AreApart rows

  -- each box sees a value that isn't borrowed, and no two have one name
  pub record AreRowsKept (S : State T) (rows : Rows T) : Type 0 where
    pub free : EachBox (IsFree S) rows
    pub apart : AreApart rows
