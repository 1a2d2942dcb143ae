-- What a box reaches, and how a borrow of it fails.
use Rattle.generational_core.specs.State.{content_at, State}
use Rattle.std.specs.Prelude.{ℕ, ◌+◌, Bool, if◌then◌else◌, nat_eq, List, ◌∷◌, Option, None, Some}
use Rattle.std.specs.Prelude.{is_none}
use Rattle.std.specs.Prelude.{map as list_map}
use Rattle.std.specs.FinMap as map
use Rattle.generational_errors.specs.declared.error.Location.{Location}
use Rattle.generational_core.specs.declared.boxes.GenerationalPointer.{GenerationalPointer}
use Rattle.generational_core.specs.Names.{Name, change}
use Rattle.generational_core.specs.Cells.{Content, Cell, refill}
use Rattle.generational_core.specs.Cells.Content.{Here, Lent}
use Rattle.generational_core.specs.Cells.Cell.{Value, Ref}
use Rattle.generational_core.specs.Boxes.{name_of}

-- Why a borrow fails: the value was removed (with the location at which the box was made), it is being
-- written (with the writer's location), or read (with the readers' locations in order).
pub data BorrowRefusal : Type 0 where
  Dropped : (created : Location) → BorrowRefusal
  BeingWritten : (writer : Location) → BorrowRefusal
  BeingRead : (readers : List Location) → BorrowRefusal

pub record Guard : Type 0 where  -- a guard: its store's number, its cell and its ticket
  pub store : ℕ
  pub cell : Name
  pub ticket : ℕ

-- how a borrow of a box that was made at l fails: if it reaches nothing, its value was removed
abbrev pub refusal_at : Option Name → Location → (Name → Option BorrowRefusal) → Option BorrowRefusal
refusal_at None l at = Some (Dropped l)
refusal_at (Some n) l at = at n

module _ {T : Type 0} where
  abbrev pub read_refusal : Option (Content T) → Option BorrowRefusal  -- how a read of it is refused
  read_refusal (Some (Lent w)) = Some (BeingWritten w.location)
  read_refusal _ = None

  abbrev pub write_refusal : Option (Content T) → Option BorrowRefusal  -- and how a write of it is
  write_refusal (Some (Here v (r ∷ rs))) = Some (BeingRead (list_map (λ b. b.location) (r ∷ rs)))
  write_refusal c = read_refusal c

  -- where a name's cell leads: a Value to itself, and a Ref to its target
  abbrev pub leads_to : Option (Cell T) → Name → Option Name
  leads_to (Some (Value c l)) n = Some n
  leads_to (Some (Ref m l)) n = Some m
  leads_to _ n = None

  unfoldable pub reach : State T → GenerationalPointer → Option Name  -- what a box reaches
  reach S b = if nat_eq b.id.store S.number
      then leads_to (map.get S.cells (name_of b)) (name_of b) else None

  -- how a read of a box fails, and how a write of it does
  unfoldable pub refusal_to_read : State T → GenerationalPointer → Option BorrowRefusal
  refusal_to_read S b = refusal_at (reach S b) b.created_at (λ n. read_refusal (content_at S n))

  unfoldable pub refusal_to_write : State T → GenerationalPointer → Option BorrowRefusal
  refusal_to_write S b = refusal_at (reach S b) b.created_at (λ n. write_refusal (content_at S n))

  -- whether a read of a box is free, and whether a write of it is
  abbrev pub can_read : State T → GenerationalPointer → Bool
  can_read S b = is_none (refusal_to_read S b)

  abbrev pub can_write : State T → GenerationalPointer → Bool
  can_write S b = is_none (refusal_to_write S b)

  abbrev pub fill : State T → Name → Content T → State T  -- another content in a cell
  fill S n c = record S { cells = change S.cells n (refill c) }

  abbrev pub take_ticket : State T → State T  -- one ticket more is given
  take_ticket S = record S { next = S.next + 1 }
