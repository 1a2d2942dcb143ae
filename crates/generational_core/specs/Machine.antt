-- The machine: what each call answers and leaves, once the new names are chosen.
use Rattle.generational_core.specs.Cells.{location_of, content_of, Content, Cell}
use Rattle.std.specs.Prelude.{unwrap_or, ℕ, Bool, true, false, if◌then◌else◌, not, ◌&&◌}
use Rattle.std.specs.Prelude.{nat_eq, nat_lt, max, List, [], ◌∷◌, ◌++◌, Option, None, Some, is_some}
use Rattle.std.specs.List.{list_any, filter}
use Rattle.std.specs.FinMap as map
use Rattle.std.specs.FinSet as set
use Rattle.generational_errors.specs.declared.error.Location.{Location}
use Rattle.generational_errors.specs.declared.error.StoreError.{StoreError}
use Rattle.generational_errors.specs.declared.error.StoreError.TheVariants.{UnknownOwner}
use Rattle.generational_core.specs.declared.borrow.Borrow.{Borrow}
use Rattle.generational_core.specs.declared.boxes.GenerationalBoxId.{GenerationalBoxId}
use Rattle.generational_core.specs.declared.boxes.GenerationalPointer.{GenerationalPointer}
use Rattle.generational_core.specs.Names.{Name, is_name, change}
use Rattle.generational_core.specs.Cells.Content.{Here, Lent}
use Rattle.generational_core.specs.Cells.Cell.{Value, Shared, Ref}
use Rattle.generational_core.specs.State.{State, Ownership, content_at, one_more, one_less}
use Rattle.generational_core.specs.State.{one_listed}
use Rattle.generational_core.specs.Boxes.{name_in, name_of, box_of, has_same_id}
use Rattle.generational_core.specs.Borrowing.{BorrowRefusal, Guard, reach, refusal_to_read, refusal_to_write}
use Rattle.generational_core.specs.Borrowing.{can_read, can_write, fill, take_ticket}
use Rattle.generational_core.specs.Borrowing.BorrowRefusal.{Dropped}
use Rattle.generational_core.specs.Ending.{sweep, close, hindrance_to, hindrance_at}

pub record OwnerName : Type 0 where  -- an owner: its store's number and its key
  pub store : ℕ
  pub key : ℕ

-- The names that the machine takes for a making: the first, and for a shared value's Ref a second.
pub record NewNames : Type 0 where
  pub first : Name
  pub second : Name

pub data Action (T : Type 0) : Type 0 where  -- a call; a making may go by an owner
  Make : (owner : Option OwnerName) (value : T) (at : Location) → Action T
  MakeShared : (owner : Option OwnerName) (value : T) (at : Location) → Action T
  Refer : (owner : Option OwnerName) (box : GenerationalPointer) → Action T
  NewOwner : Action T
  CloneOwner : (owner : OwnerName) → Action T
  ReleaseOwner : (owner : OwnerName) → Action T
  LeakOwner : (owner : OwnerName) → Action T
  Read : (box : GenerationalPointer) (at : Location) → Action T
  Write : (box : GenerationalPointer) (at : Location) → Action T
  ReleaseReader : (guard : Guard) → Action T
  ReleaseWriter : (guard : Guard) (value : T) → Action T
  SetValue : (box : GenerationalPointer) (value : T) → Action T
  End : (box : GenerationalPointer) → Action T
  Point : (box other : GenerationalPointer) → Action T
  CanRead : (box : GenerationalPointer) → Action T
  CanWrite : (box : GenerationalPointer) → Action T

pub data Answer (T : Type 0) : Type 0 where
  Made : (box : GenerationalPointer) → Answer T
  Owned : (owner : OwnerName) → Answer T
  Reads : (guard : Guard) → Answer T
  Writes : (guard : Guard) (value : T) → Answer T
  Done : Answer T
  Old : (value : T) → Answer T
  Flag : (yes : Bool) → Answer T
  Back : (value : T) → Answer T
  BorrowRefused : (refusal : BorrowRefusal) → Answer T
  Refused : (cause : StoreError) → Answer T

abbrev pub Outcome : Type 0 → Type 0  -- what a call answers, and the state after it
Outcome T = Answer T × State T

module _ {T : Type 0} where
  abbrev pub unless : Option BorrowRefusal → State T → Outcome T → Outcome T  -- a refusal changes nothing
  unless (Some t) S other = (BorrowRefused t, S)
  unless None S other = other

  abbrev pub ownership : State T → OwnerName → Option Ownership  -- if it is of this store
  ownership S o = if nat_eq o.store S.number then map.get S.owners o.key else None

  abbrev pub is_known : State T → Option OwnerName → Bool  -- whether a making may go on
  is_known S None = true
  is_known S (Some o) = is_some (ownership S o)

  -- the state with another cell, under a name that is issued from now on
  abbrev pub add_cell : State T → Name → Cell T → State T
  add_cell S n cell =
      let cells = map.insert S.cells n cell in
      record S { cells = cells; given = set.insert S.given n; peak = max S.peak (map.len cells) }

  -- the state with a name at the end of the owner's list
  abbrev pub add_to_list : State T → Option OwnerName → Name → State T
  add_to_list S None n = S
  add_to_list S (Some o) n = record S { owners = change S.owners o.key (one_listed n) }

  -- a box of a new cell, which is added to the owner's list
  abbrev pub make : State T → Option OwnerName → Name → Cell T → Location → Outcome T
  make S o n cell l = (Made (box_of S.number n l), add_to_list (add_cell S n cell) o n)

  abbrev pub cell_at : State T → Option Name → Option (Cell T)  -- the cell at what was reached
  cell_at S None = None
  cell_at S (Some n) = map.get S.cells n

  -- a Ref to what was reached, if that is a Shared cell, with that cell's location
  abbrev pub refer : State T → Option OwnerName → GenerationalPointer
      → Option Name → Option (Cell T) → Name → Outcome T
  refer S o b (Some m) (Some (Shared c l)) n = make S o n (Ref m l) l
  refer S o b _ _ n = (BorrowRefused (Dropped b.created_at), S)

  abbrev pub set_ownership : State T → ℕ → Ownership → State T
  set_ownership S k h = record S { owners = map.insert S.owners k h }

  abbrev pub clone_owner : State T → OwnerName → Option Ownership → Outcome T  -- one more
  clone_owner S o None = (Refused UnknownOwner, S)
  clone_owner S o (Some h) =
      (Owned o, take_ticket (set_ownership S o.key (one_more h)))

  -- one owner value less; with the last one all boxes of the list end, or nothing does
  abbrev pub release_owner : State T → OwnerName → Option Ownership → Outcome T
  release_owner S o None = (Refused UnknownOwner, S)
  release_owner S o (Some h) =
      if nat_lt 1 h.count
      then (Done, set_ownership S o.key (one_less h))
      else unless (hindrance_to S h.names) S
      (Done, record (close S h.names) { owners = map.remove S.owners o.key })

  abbrev pub next_guard : State T → Name → Guard  -- what the next ticket gives
  next_guard S m = record { store = S.number; cell = m; ticket = S.next }

  abbrev pub next_borrow : State T → Location → Borrow
  next_borrow S l = record { ticket = S.next; location = l }

  -- a reader at the end of the list
  abbrev pub read_at : State T → Location → Option Name → Option (Content T) → Outcome T
  read_at S l (Some m) (Some (Here v rs)) =
      (Reads (next_guard S m), take_ticket (fill S m (Here v (rs ++ next_borrow S l ∷ []))))
  read_at S l _ _ = (Done, S)

  -- a writer, whose guard owns the value
  abbrev pub write_at : State T → Location → Option Name → Option (Content T) → Outcome T
  write_at S l (Some m) (Some (Here v readers)) =
      (Writes (next_guard S m) v, take_ticket (fill S m (Lent (next_borrow S l))))
  write_at S l _ _ = (Done, S)

  abbrev pub has_reader : Option (Content T) → ℕ → Bool  -- whether a ticket is a reader's
  has_reader (Some (Here v readers)) t = list_any (λ r. nat_eq r.ticket t) readers
  has_reader _ t = false

  abbrev pub has_writer : Option (Content T) → ℕ → Bool  -- or the writer's
  has_writer (Some (Lent w)) t = nat_eq w.ticket t
  has_writer _ t = false

  -- whether the state knows a reader's guard, or a writer's: its number, and its ticket at its cell
  abbrev pub knows_reader : State T → Guard → Bool
  knows_reader S g = nat_eq g.store S.number && has_reader (content_at S g.cell) g.ticket

  abbrev pub knows_writer : State T → Guard → Bool
  knows_writer S g = nat_eq g.store S.number && has_writer (content_at S g.cell) g.ticket

  -- the state without the reader of a ticket
  abbrev pub remove_reader : State T → Name → ℕ → Option (Content T) → State T
  remove_reader S n t (Some (Here v readers)) =
      fill S n (Here v (filter (λ r. not (nat_eq r.ticket t)) readers))
  remove_reader S n t _ = S

  -- another value if there is no borrow; the value comes back from what is read or lent
  abbrev pub set_at : State T → GenerationalPointer → T
      → Option Name → Option (Content T) → Outcome T
  set_at S b v None c = (BorrowRefused (Dropped b.created_at), S)
  set_at S b v (Some m) (Some (Here old [])) = (Old old, fill S m (Here v []))
  set_at S b v (Some m) _ = (Back v, S)

  abbrev pub own_name : State T → GenerationalPointer → List Name  -- if it is of this store
  own_name S b = if nat_eq b.id.store S.number then name_of b ∷ [] else []

  abbrev pub own_cell : State T → GenerationalBoxId → Option (Cell T)  -- likewise
  own_cell S id = if nat_eq id.store S.number then map.get S.cells (name_in id) else None

  -- a's cell, a Ref to old made at l, becomes a Ref to new, and old goes if no Ref names it then
  abbrev pub turn : State T → Name → Name → Name → Location → Outcome T
  turn S a old new l =
      let left = sweep (map.insert S.cells a (Ref new l)) in
      if is_name old new
      then (Done, S)
      else unless (hindrance_at S.cells left old) S (Done, record S { cells = left })

  -- a's own cell is looked at after b was found free
  abbrev pub point : State T → GenerationalPointer → GenerationalPointer
      → Option (Cell T) → Option Name → Option (Cell T) → Outcome T
  point S a b None to target = (BorrowRefused (Dropped a.created_at), S)
  point S a b (Some (Ref old l)) (Some new) (Some (Shared c k)) = turn S (name_of a) old new l
  point S a b (Some _) to target =
      (BorrowRefused (Dropped (unwrap_or (location_of target) b.created_at)), S)

  -- what a call answers and leaves, unless tickets or memory run out
  abbrev pub act : State T → Action T → NewNames → Outcome T
  act S (Make o v l) f =
      if is_known S o then make S o f.first (Value (Here v []) l) l else (Refused UnknownOwner, S)
  act S (MakeShared o v l) f =
      let shared = add_cell S f.first (Shared (Here v []) l) in
      if is_known S o then make shared o f.second (Ref f.first l) l else (Refused UnknownOwner, S)
  act S (Refer o b) f =
      if is_known S o
      then unless (refusal_to_read S b) S (refer S o b (reach S b) (cell_at S (reach S b)) f.first)
      else (Refused UnknownOwner, S)
  act S NewOwner f =
      let after = set_ownership S S.next (record { names = []; count = 1 }) in
      (Owned (record { store = S.number; key = S.next }), take_ticket after)
  act S (CloneOwner o) f = clone_owner S o (ownership S o)
  act S (ReleaseOwner o) f = release_owner S o (ownership S o)
  act S (LeakOwner o) f = (Done, S)
  act S (Read b l) f =
      unless (refusal_to_read S b) S (read_at S l (reach S b) (content_of (cell_at S (reach S b))))
  act S (Write b l) f =
      unless (refusal_to_write S b) S (write_at S l (reach S b) (content_of (cell_at S (reach S b))))
  act S (ReleaseReader g) f =
      if knows_reader S g
      then (Flag true, remove_reader S g.cell g.ticket (content_at S g.cell))
      else (Flag false, S)
  act S (ReleaseWriter g v) f =
      if knows_writer S g then (Done, fill S g.cell (Here v [])) else (Back v, S)
  act S (SetValue b v) f = set_at S b v (reach S b) (content_of (cell_at S (reach S b)))
  act S (End b) f = unless (hindrance_to S (own_name S b)) S (Done, close S (own_name S b))
  act S (Point a b) f =
      if has_same_id a b
      then (Done, S)
      else unless (refusal_to_read S b) S
      (point S a b (own_cell S a.id) (reach S b) (cell_at S (reach S b)))
  act S (CanRead b) f = (Flag (can_read S b), S)
  act S (CanWrite b) f = (Flag (can_write S b), S)
