-- When one state carries another into itself: its names by a renaming, its tickets and keys by a
-- difference, its values by a function.
use Rattle.std.specs.Prelude.{◌≡◌, ℕ, ◌+◌, ◌≤◌, true, if◌then◌else◌, nat_eq, Some, is_some}
use Rattle.std.specs.Prelude.{option_map, map as list_map}
use Rattle.std.specs.List.{AllByRecursion}
use Rattle.std.specs.FinMap as map
use Rattle.std.specs.FinSet as set
use Rattle.generational_errors.specs.declared.error.Location.{Location}
use Rattle.generational_core.specs.declared.boxes.GenerationalPointer.{GenerationalPointer}
use Rattle.generational_core.specs.Names.{Name, NameMap}
use Rattle.generational_core.specs.declared.borrow.Borrow.{Borrow}
use Rattle.generational_core.specs.Cells.{Content, Cell}
use Rattle.generational_core.specs.Cells.Content.{Here, Lent}
use Rattle.generational_core.specs.Cells.Cell.{Value, Shared, Ref}
use Rattle.generational_core.specs.State.{State, Ownership}
use Rattle.generational_core.specs.Borrowing.{Guard}
use Rattle.generational_core.specs.Boxes.{name_of, box_of}
use Rattle.generational_core.specs.Machine.{Action, Answer, OwnerName}
use Rattle.generational_core.specs.Machine.Action.{Make, MakeShared, Refer, NewOwner, CloneOwner}
use Rattle.generational_core.specs.Machine.Action.{ReleaseOwner, LeakOwner, Read, Write}
use Rattle.generational_core.specs.Machine.Action.{ReleaseReader, ReleaseWriter, SetValue, End}
use Rattle.generational_core.specs.Machine.Action.{Point, CanRead, CanWrite}
use Rattle.generational_core.specs.Machine.Answer.{Made, Owned, Reads, Writes, Done, Old, Flag}
use Rattle.generational_core.specs.Machine.Answer.{Back, BorrowRefused, Refused}

-- what becomes of the boxes, guards, owners and values in calls and answers
pub record Mapping (T U : Type 0) : Type 0 where
  pub box : GenerationalPointer → GenerationalPointer
  pub guard : Guard → Guard
  pub owner : OwnerName → OwnerName
  pub value : T → U

module _ {T U : Type 0} (m : Mapping T U) where
  abbrev pub map_action : Action T → Action U
  map_action (Make o v l) = Make (option_map m.owner o) (m.value v) l
  map_action (MakeShared o v l) = MakeShared (option_map m.owner o) (m.value v) l
  map_action (Refer o b) = Refer (option_map m.owner o) (m.box b)
  map_action NewOwner = NewOwner
  map_action (CloneOwner o) = CloneOwner (m.owner o)
  map_action (ReleaseOwner o) = ReleaseOwner (m.owner o)
  map_action (LeakOwner o) = LeakOwner (m.owner o)
  map_action (Read b l) = Read (m.box b) l
  map_action (Write b l) = Write (m.box b) l
  map_action (ReleaseReader g) = ReleaseReader (m.guard g)
  map_action (ReleaseWriter g v) = ReleaseWriter (m.guard g) (m.value v)
  map_action (SetValue b v) = SetValue (m.box b) (m.value v)
  map_action (End b) = End (m.box b)
  map_action (Point a b) = Point (m.box a) (m.box b)
  map_action (CanRead b) = CanRead (m.box b)
  map_action (CanWrite b) = CanWrite (m.box b)

  abbrev pub map_answer : Answer T → Answer U
  map_answer (Made b) = Made (m.box b)
  map_answer (Owned o) = Owned (m.owner o)
  map_answer (Reads g) = Reads (m.guard g)
  map_answer (Writes g v) = Writes (m.guard g) (m.value v)
  map_answer Done = Done
  map_answer (Old v) = Old (m.value v)
  map_answer (Flag b) = Flag b
  map_answer (Back v) = Back (m.value v)
  map_answer (BorrowRefused t) = BorrowRefused t
  map_answer (Refused cause) = Refused cause

module _ (f : Name → Name) (d : ℕ) where
  abbrev pub shift_borrow : Borrow → Borrow
  shift_borrow b = record b { ticket = b.ticket + d }

  abbrev pub rename_ownership : Ownership → Ownership
  rename_ownership h = record h { names = list_map f h.names }

  -- what is of this store; what is of another stays
  abbrev pub rename_box : ℕ → GenerationalPointer → GenerationalPointer
  rename_box number b =
      if nat_eq b.id.store number then box_of number (f (name_of b)) b.created_at else b

  abbrev pub rename_guard : ℕ → Guard → Guard
  rename_guard number g = if nat_eq g.store number
      then record { store = number; cell = f g.cell; ticket = g.ticket + d } else g

  abbrev pub shift_owner : ℕ → OwnerName → OwnerName
  shift_owner number o =
      if nat_eq o.store number then record { store = number; key = o.key + d } else o

  module _ {T U : Type 0} (g : T → U) where
    abbrev pub rename_content : Content T → Content U
    rename_content (Here v readers) = Here (g v) (list_map shift_borrow readers)
    rename_content (Lent w) = Lent (shift_borrow w)

    abbrev pub rename_cell : Cell T → Cell U
    rename_cell (Value c l) = Value (rename_content c) l
    rename_cell (Shared c l) = Shared (rename_content c) l
    rename_cell (Ref m l) = Ref (f m) l

    -- on the known names S's cells are A's, and S has no others
    pub record CarriesCells
        (Knows : Name → Type 0) (S : NameMap (Cell U)) (A : NameMap (Cell T)) : Type 0 where
      pub at : (k : Name) → Knows k → map.get S (f k) ≡ option_map rename_cell (map.get A k)
      pub from : (n : Name) → is_some (map.get S n) ≡ true → (k : Name) × Knows k × (f k ≡ n)
      pub known : (k : Name) → is_some (map.get A k) ≡ true → Knows k
      pub leads : (k m : Name) (l : Location) → map.get A k ≡ Some (Ref m l) → Knows m

    pub record Carries (Knows : Name → Type 0) (S : State U) (A : State T) : Type 0 where
      pub number : S.number ≡ A.number
      pub next : S.next ≡ A.next + d
      pub peak : S.peak ≡ A.peak
      pub cells : CarriesCells Knows S.cells A.cells
      pub given : (k : Name) → Knows k → set.contains S.given (f k) ≡ set.contains A.given k
      pub owners : (key : ℕ)
          → map.get S.owners (key + d) ≡ option_map rename_ownership (map.get A.owners key)
      -- S has no other owners
      pub keys : (key : ℕ) → is_some (map.get S.owners key) ≡ true → d ≤ key
      pub listed : (key : ℕ) (h : Ownership)
          → map.get A.owners key ≡ Some h → AllByRecursion Knows h.names
      -- known names keep apart
      pub apart : (j k : Name) → Knows j → Knows k → f j ≡ f k → j ≡ k

-- the name in a box, and in a guard, of this store is known
abbrev pub KnowsBox : (Name → Type 0) → ℕ → GenerationalPointer → Type 0
KnowsBox Knows number b = nat_eq b.id.store number ≡ true → Knows (name_of b)

abbrev pub KnowsGuard : (Name → Type 0) → ℕ → Guard → Type 0
KnowsGuard Knows number g = nat_eq g.store number ≡ true → Knows g.cell
