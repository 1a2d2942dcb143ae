-- How a call that no borrow hinders may be answered.
use Rattle.std.specs.Prelude.{◌≡◌, ℕ, ◌⊎◌, Bool, true, false, Option, None, Some}
use Rattle.generational_errors.specs.declared.error.Location.{Location}
use Rattle.generational_errors.specs.declared.error.StoreError.TheVariants.{NumbersExhausted}
use Rattle.generational_errors.specs.declared.error.StoreError.TheVariants.{UnknownOwner}
use Rattle.generational_errors.specs.declared.error.StoreError.TheVariants.{OutOfMemory}
use Rattle.generational_core.specs.declared.boxes.GenerationalPointer.{GenerationalPointer}
use Rattle.generational_core.specs.Borrowing.BorrowRefusal.{Dropped}
use Rattle.generational_core.specs.Boxes.{has_same_id}
use Rattle.generational_core.specs.Machine.{Action, Answer, OwnerName}
use Rattle.generational_core.specs.Machine.Action.{Make, MakeShared, Refer, NewOwner, CloneOwner}
use Rattle.generational_core.specs.Machine.Action.{ReleaseOwner, Read, Write, ReleaseReader}
use Rattle.generational_core.specs.Machine.Action.{ReleaseWriter, SetValue, Point}
use Rattle.generational_core.specs.Machine.Answer.{Made, Owned, Reads, Writes, Back, Flag}
use Rattle.generational_core.specs.Machine.Answer.{BorrowRefused, Refused}

-- a making's owner, if it has one, is of the store with this number
abbrev pub IsOwnList : ℕ → Option OwnerName → Type 0
IsOwnList number None = Unit {0}
IsOwnList number (Some o) = o.store ≡ number

module _ {T : Type 0} where
  -- whether a call takes an owner
  abbrev pub needs_owner : Action T → Bool
  needs_owner (Make (Some o) v l) = true
  needs_owner (MakeShared (Some o) v l) = true
  needs_owner (Refer (Some o) b) = true
  needs_owner (CloneOwner o) = true
  needs_owner (ReleaseOwner o) = true
  needs_owner _ = false

  -- a call takes a ticket, and is made with what is of the store with this number
  abbrev pub TakesTicket : ℕ → Action T → Type 0
  TakesTicket number NewOwner = Unit {0}
  TakesTicket number (CloneOwner o) = o.store ≡ number
  TakesTicket number (Read b l) = b.id.store ≡ number
  TakesTicket number (Write b l) = b.id.store ≡ number
  TakesTicket number _ = ⊥

  -- Which location a call's `Dropped` may have: that of the box on which it is made. A call that points a
  -- box at another has the other's location if that reaches nothing or can't be shared. Else the other is
  -- of the store with this number, and the location is that of the box itself, or of the value which the
  -- other reaches, and then the box itself is of the store too.
  abbrev pub MayDrop : ℕ → Action T → Location → Type 0
  MayDrop number (Refer o b) l = l ≡ b.created_at
  MayDrop number (Read b k) l = l ≡ b.created_at
  MayDrop number (Write b k) l = l ≡ b.created_at
  MayDrop number (SetValue b v) l = l ≡ b.created_at
  MayDrop number (Point a b) l = (l ≡ b.created_at)
      ⊎ ((b.id.store ≡ number) × ((l ≡ a.created_at) ⊎ (a.id.store ≡ number)))
  MayDrop number _ l = ⊥

  -- The owner, the boxes and the guard of any other call are of the store with this number. A box of any
  -- store may be pointed at itself, and any box may be removed.
  abbrev pub IsOwnCall : ℕ → Action T → Type 0
  IsOwnCall number (Make o v l) = IsOwnList number o
  IsOwnCall number (MakeShared o v l) = IsOwnList number o
  IsOwnCall number (Refer o b) = IsOwnList number o × (b.id.store ≡ number)
  IsOwnCall number (ReleaseOwner o) = o.store ≡ number
  IsOwnCall number (ReleaseReader g) = g.store ≡ number
  IsOwnCall number (ReleaseWriter g v) = g.store ≡ number
  IsOwnCall number (SetValue b v) = b.id.store ≡ number
  IsOwnCall number (Point a b) =
      (has_same_id a b ≡ true) ⊎ ((a.id.store ≡ number) × (b.id.store ≡ number))
  IsOwnCall number _ = Unit {0}

  -- What a call returns: the box of a new value, made at the location that was passed in, or that of a
  -- new reference; another value of the same owner, or an owner of the store with this number.
  abbrev pub GivesBox : Action T → GenerationalPointer → Type 0
  GivesBox (Make o v l) b = b.created_at ≡ l
  GivesBox (MakeShared o v l) b = b.created_at ≡ l
  GivesBox (Refer o c) b = Unit {0}
  GivesBox _ b = ⊥

  abbrev pub GivesOwner : ℕ → Action T → OwnerName → Type 0
  GivesOwner number (CloneOwner o) p = p ≡ o
  GivesOwner number _ p = p.store ≡ number

  -- the value that a release returns is the guard's
  abbrev pub GivesBack : Action T → T → Type 0
  GivesBack (ReleaseWriter g v) w = w ≡ v
  GivesBack _ w = ⊥

  -- An answer of the store with this number is a success, of a call made with what is the store's own,
  -- and with a result that is its own; or one of these errors: `Dropped`, the last ticket, of a call made
  -- with what is its own, an owner that it doesn't know, or a failed allocation. The release of a guard
  -- that it doesn't know is neither, and a writer's value comes back.
  abbrev pub MayAnswer : ℕ → Action T → Answer T → Type 0
  MayAnswer number call (Made b) = IsOwnCall number call × (b.id.store ≡ number) × GivesBox call b
  MayAnswer number call (Owned o) = TakesTicket number call × GivesOwner number call o
  MayAnswer number call (Reads g) = TakesTicket number call × (g.store ≡ number)
  MayAnswer number call (Writes g v) = TakesTicket number call × (g.store ≡ number)
  MayAnswer number call (Back v) = GivesBack call v
  MayAnswer number call (Flag false) = Unit {0}
  MayAnswer number call (BorrowRefused (Dropped l)) = MayDrop number call l
  MayAnswer number call (BorrowRefused refusal) = ⊥
  MayAnswer number call (Refused NumbersExhausted) = TakesTicket number call
  MayAnswer number call (Refused UnknownOwner) = needs_owner call ≡ true
  MayAnswer number call (Refused OutOfMemory) = Unit {0}
  MayAnswer number call _ = IsOwnCall number call
