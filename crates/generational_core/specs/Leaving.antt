-- What a call leaves unchanged: a box, a guard, an owner's record, and that there is no borrow.
use Rattle.std.specs.Prelude.{◌≡◌, ◌≢◌, Bool, true, false, List, [], None, Some}
use Rattle.std.specs.FinMap as map
use Rattle.generational_core.specs.declared.boxes.GenerationalPointer.{GenerationalPointer}
use Rattle.generational_core.specs.Names.{Name, among}
use Rattle.generational_core.specs.Boxes.{name_of}
use Rattle.generational_core.specs.Cells.Content.{Here}
use Rattle.generational_core.specs.State.{State, content_at, tickets_at}
use Rattle.generational_core.specs.Borrowing.{Guard, reach, can_write, fill, take_ticket}
use Rattle.generational_core.specs.Ending.{cells_after}
use Rattle.generational_core.specs.Machine.{Action, Answer, OwnerName}
use Rattle.generational_core.specs.Machine.Action.{Make, MakeShared, Refer, NewOwner, CloneOwner}
use Rattle.generational_core.specs.Machine.Action.{ReleaseOwner, Read, Write, ReleaseReader, ReleaseWriter}
use Rattle.generational_core.specs.Machine.Answer.{Made, Owned, Back, BorrowRefused, Refused}
use Rattle.generational_core.specs.Seeing.{value_in, LeavesValue}

module _ {T : Type 0} where
  -- an answer is an error: of a borrow or a removal, of the store, or the value that comes back
  abbrev pub refuses : Answer T → Bool
  refuses (BorrowRefused t) = true
  refuses (Refused e) = true
  refuses (Back v) = true
  refuses _ = false

  -- ---- boxes

  -- an answer gives no box of this box's name; and the same holds of the answer to a call that is a
  -- making
  abbrev pub IsBeside : Answer T → GenerationalPointer → Type 0
  IsBeside (Made a) b = name_of a ≢ name_of b
  IsBeside _ b = Unit {0}

  abbrev pub GivesOther : Action T → Answer T → GenerationalPointer → Type 0
  GivesOther (Make o v l) answer b = IsBeside answer b
  GivesOther (MakeShared o v l) answer b = IsBeside answer b
  GivesOther (Refer o a) answer b = IsBeside answer b
  GivesOther _ answer b = Unit {0}

  -- a call leaves the content that a box reaches, its value and its borrows, and the box as well
  abbrev pub LeavesContent : State T → Action T → GenerationalPointer → Type 0
  LeavesContent S (Read a l) b = reach S a ≢ reach S b
  LeavesContent S (ReleaseReader g) b = reach S b ≢ Some g.cell
  LeavesContent S call b = LeavesValue S call b

  -- from S to R a box is unchanged: it reaches the same name, the content there is the same, and it sees
  -- the same value
  pub record IsUnchanged (S : State T) (b : GenerationalPointer) (R : State T) : Type 0 where
    pub reached : reach R b ≡ reach S b
    pub content : (m : Name) → reach S b ≡ Some m → content_at R m ≡ content_at S m
    pub seen : value_in R b ≡ value_in S b

  -- from S to R the value that a box reaches becomes another, and a ticket is used up: it wasn't
  -- borrowed, and nothing else changes
  pub record IsSet (S : State T) (b : GenerationalPointer) (v : T) (R : State T) : Type 0 where
    pub name : Name
    pub old : T
    pub reached : reach S b ≡ Some name
    pub content : content_at S name ≡ Some (Here old [])
    pub after : R ≡ take_ticket (fill S name (Here v []))

  -- ---- owners

  -- an answer doesn't give this owner; and the same holds of the answer to a call that makes one
  abbrev pub IsOtherOwner : Answer T → OwnerName → Type 0
  IsOtherOwner (Owned a) o = a ≢ o
  IsOtherOwner _ o = Unit {0}

  abbrev pub GivesOtherOwner : Action T → Answer T → OwnerName → Type 0
  GivesOtherOwner NewOwner answer o = IsOtherOwner answer o
  GivesOtherOwner _ answer o = Unit {0}

  -- a call goes by another owner, or by none
  abbrev pub LeavesOwner : Action T → OwnerName → Type 0
  LeavesOwner (Make (Some a) v l) o = a ≢ o
  LeavesOwner (MakeShared (Some a) v l) o = a ≢ o
  LeavesOwner (Refer (Some a) b) o = a ≢ o
  LeavesOwner (CloneOwner a) o = a ≢ o
  LeavesOwner (ReleaseOwner a) o = a ≢ o
  LeavesOwner _ o = Unit {0}

  -- ---- borrows

  -- a call isn't the release of this guard
  abbrev pub LeavesGuard : Action T → Guard → Type 0
  LeavesGuard (ReleaseReader h) g = h ≢ g
  LeavesGuard (ReleaseWriter h v) g = h ≢ g
  LeavesGuard _ g = Unit {0}

  -- a call begins no borrow
  abbrev pub BeginsNoBorrow : Action T → Type 0
  BeginsNoBorrow (Read b l) = ⊥
  BeginsNoBorrow (Write b l) = ⊥
  BeginsNoBorrow _ = Unit {0}

  -- the store has no borrows
  pub record HasNoBorrows (S : State T) : Type 0 where
    pub none : (n : Name) → tickets_at S.cells n ≡ []

  -- nothing borrows what would end with these names
  abbrev pub AreFree : State T → List Name → Type 0
  AreFree S names = (b : GenerationalPointer) (m : Name) → among names (name_of b) ≡ true
      → reach S b ≡ Some m → map.get (cells_after S.cells names) m ≡ None → can_write S b ≡ true
