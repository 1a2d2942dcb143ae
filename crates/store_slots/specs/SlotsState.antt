-- The state that a list of slots represents, and what holds of every such list.
use Rattle.std.specs.Prelude.{◌≡◌, ℕ, ◌+◌, ◌-◌, ◌≤◌, suc, zero, Bool, true, false, ◌&&◌, nat_eq}
use Rattle.std.specs.Prelude.{nat_lt, not, if◌then◌else◌, length, List, [], ◌∷◌, ◌++◌}
use Rattle.std.specs.Prelude.{Option, None, Some, IfSome, IsTrue, Result, Ok, Err, is_ok, slice_get}
use Rattle.std.specs.Prelude.{max, is_some}
use Rattle.std.specs.Option.{option_or}
use Rattle.std.specs.Ordering.{nat_cmp}
use Rattle.std.specs.FinMap as map
use Rattle.std.specs.FinSet as set
use Rattle.generational_core.specs.Names.{Name, NameMap, Names}
use Rattle.generational_errors.specs.declared.error.Location.{Location}
use Rattle.generational_core.specs.Borrowing.{BorrowRefusal, fill, leads_to, read_refusal, refusal_at}
use Rattle.generational_core.specs.Borrowing.{write_refusal}
use Rattle.generational_core.specs.Borrowing.BorrowRefusal.{BeingWritten, Dropped}
use Rattle.generational_core.specs.Cells.{Cell, Content, content_of, is_shared, refers_to}
use Rattle.generational_core.specs.Cells.Cell.{Value, Ref}
use Rattle.generational_core.specs.State.{State, Owners, content_at}
use Rattle.generational_core.specs.Machine.{add_cell, Outcome}
use Rattle.generational_core.specs.Machine.Answer.{Done, BorrowRefused}
use Rattle.generational_core.specs.Answers.{refusal_of_read_error}
use Rattle.generational_errors.specs.declared.error.BorrowError.{BorrowError}
use Rattle.generational_errors.specs.declared.error.BorrowMutError.{BorrowMutError}
use Rattle.generational_errors.specs.declared.error.Refused.{Refused}
use Rattle.generational_core.specs.Ending.{close, hindrance_to}
use Rattle.generational_core.specs.Slots.{last_generation}
use Rattle.generational_core.specs.Steps.{IsNew}
use Rattle.store_cells.specs.Entry.{Entry, FoundBorrowed, cell_of, is_live}
use Rattle.store_parts.specs.Lists.{how_many}
use Rattle.store_cells.specs.Entry.{cell_under, change_entry}
use Rattle.store_parts.specs.CellNames.{name_of_cell}
use Rattle.store_parts.specs.declared.names.CellName.{CellName}
use Rattle.store_slots.specs.declared.found.Found.{Found}
use Rattle.store_slots.specs.declared.found.Found.TheVariants as found

-- The slots of a store: the state that they represent, without owners and numbers, and how many more
-- cells don't need an allocation.
pub record SlotsState (T : Type 0) : Type 0 where
  pub state : State T
  pub spare : ℕ

-- How many slots are live or free, and their peak number.
pub record UsableCount : Type 0 where
  pub usable : ℕ
  pub peak : ℕ

-- How many slots were retired, and the peak number of live or free ones before the last of them was.
pub record Retirements : Type 0 where
  pub retired : ℕ
  pub before : ℕ

-- what follows for the slots, if so many were made
abbrev pub usable_count : Retirements → ℕ → UsableCount
usable_count r made =
    record { usable = made - r.retired; peak = max r.before (made - r.retired) }

-- What a store has of slots: the free ones, for how many there is room, the first generation of
-- each, how many are live or free, with the most that were, and the slots themselves.
pub record SlotTable (T : Type 0) : Type 0 where
  pub free : set.FinSet nat_cmp
  pub rooms : ℕ
  pub start : ℕ
  pub counts : UsableCount
  pub slots : List (Entry T)

-- count names of a slot, upwards from a generation
abbrev pub names_up : ℕ → ℕ → ℕ → List Name
names_up slot from zero = []
names_up slot from (suc count) =
    record { slot = slot; generation = from + count } ∷ names_up slot from count

module _ {T : Type 0} where
  abbrev pub with_cell : Name → Option (Cell T) → List (Name × Cell T) → List (Name × Cell T)
  with_cell n None rest = rest
  with_cell n (Some c) rest = (n, c) ∷ rest

  -- the live cells of the slots from the i-th on
  abbrev pub live_from : ℕ → List (Entry T) → List (Name × Cell T)
  live_from i [] = []
  live_from i (e ∷ slots) =
      with_cell (record { slot = i; generation = e.generation }) (cell_of e.kept)
      (live_from (i + 1) slots)

  -- the live cells of the slots
  unfoldable pub cells_of : List (Entry T) → NameMap (Cell T)
  cells_of slots = map.from_entries (live_from 0 slots)

  -- the names that were issued in the slots from the i-th on: each slot's generations from the first one
  -- to that of its last cell
  abbrev pub given_from : ℕ → ℕ → List (Entry T) → List Name
  given_from start i [] = []
  given_from start i (e ∷ slots) =
      names_up i start (e.generation + 1 - start) ++ given_from start (i + 1) slots

  -- the names that were issued in the slots
  unfoldable pub given_of : ℕ → List (Entry T) → Names
  given_of start slots = set.from_list (given_from start 0 slots)

  -- the state that slots represent
  abbrev pub state_of : ℕ → ℕ → List (Entry T) → State T
  state_of start peak slots =
      record {
        number = 0;
        cells = cells_of slots;
        given = given_of start slots;
        owners = map.empty;
        next = 0;
        peak = peak;
        start = start;
      }

  -- the state with a store's number, owners and next ticket
  abbrev pub with_records : State T → ℕ → Owners → ℕ → State T
  with_records S number owners next =
      record S { number = number; owners = owners; next = next }

  -- the state in which the content at a name, if there is one, is changed by f
  abbrev pub change_content_if : State T → Name → (Content T → Content T) → Option (Content T)
      → State T
  change_content_if S n f None = S
  change_content_if S n f (Some c) = fill S n (f c)

  abbrev pub change_content : State T → Name → (Content T → Content T) → State T
  change_content S n f = change_content_if S n f (content_at S n)

  -- what a box of this name reaches, and the content there
  abbrev pub reached : State T → Name → Option Name
  reached S n = leads_to (map.get S.cells n) n

  abbrev pub content_reached : State T → Option Name → Option (Content T)
  content_reached S None = None
  content_reached S (Some m) = content_at S m

  -- how a read fails of what was reached, if something was
  abbrev pub read_refusal_of : NameMap (Cell T) → Option Name → Option BorrowRefusal
  read_refusal_of cells None = None
  read_refusal_of cells (Some m) = read_refusal (content_of (map.get cells m))

  -- what a look at a box finds: what the box reaches, and which borrow is there
  abbrev pub FindsCell : NameMap (Cell T) → Option Name → Found → Type 0
  FindsCell cells r found.Nothing = r ≡ None
  FindsCell cells r (found.Unborrowed m) =
      (r ≡ Some (name_of_cell m))
      × (write_refusal (content_of (map.get cells (name_of_cell m))) ≡ None)
  FindsCell cells r (found.Read m) =
      (r ≡ Some (name_of_cell m))
      × (read_refusal (content_of (map.get cells (name_of_cell m))) ≡ None)
      × (is_some (write_refusal (content_of (map.get cells (name_of_cell m)))) ≡ true)
  FindsCell cells r (found.Lent e) = read_refusal_of cells r ≡ Some (BeingWritten e.borrowed_mut_at)

  -- how a read of what a box that was made at l reaches fails, and how a write does
  abbrev pub refusal_to_read_at : State T → Name → Location → Option BorrowRefusal
  refusal_to_read_at S n l = refusal_at (reached S n) l (λ m. read_refusal (content_at S m))

  abbrev pub refusal_to_write_at : State T → Name → Location → Option BorrowRefusal
  refusal_to_write_at S n l = refusal_at (reached S n) l (λ m. write_refusal (content_at S m))

  -- the result of a read: what the box reaches, which no writer has, and whether it is known to have no
  -- borrow, or an error
  abbrev pub IsReadReply : State T → Name → Location → Result (CellName × Bool) BorrowError → Type 0
  IsReadReply S n l (Ok r) =
      (reached S n ≡ Some (name_of_cell r.0))
      × (read_refusal (content_at S (name_of_cell r.0)) ≡ None)
      × (r.1 ≡ true → write_refusal (content_at S (name_of_cell r.0)) ≡ None)
  IsReadReply S n l (Err e) = refusal_to_read_at S n l ≡ Some (refusal_of_read_error e)

  -- the result of a write: what the box reaches, that isn't borrowed, or an error
  abbrev pub IsWritable : State T → Name → Location → Result CellName (Refused BorrowMutError)
      → Type 0
  IsWritable S n l (Ok m) =
      (reached S n ≡ Some (name_of_cell m))
      × (write_refusal (content_at S (name_of_cell m)) ≡ None)
  IsWritable S n l (Err e) = FoundBorrowed (refusal_to_write_at S n l) (Err e)

  -- how a reference to it fails: like a read, and if what is reached isn't shared
  abbrev pub shared_reached : State T → Option Name → Bool
  shared_reached S None = false
  shared_reached S (Some m) = is_shared (map.get S.cells m)

  abbrev pub refusal_to_refer_at : State T → Name → Location → Option BorrowRefusal
  refusal_to_refer_at S n l = option_or (refusal_to_read_at S n l)
      (if shared_reached S (reached S n) then None else Some (Dropped l))

  -- whether a slot is free: it has no cell, and its last generation wasn't the last of all
  abbrev pub is_spent : Entry T → Bool
  is_spent e = not (is_live e.kept) && nat_lt e.generation last_generation

  abbrev pub is_reusable : Option (Entry T) → Bool
  is_reusable None = false
  is_reusable (Some e) = is_spent e

  abbrev pub EntryHasBegun : ℕ → Option (Entry T) → Type 0
  EntryHasBegun start None = Unit {0}
  EntryHasBegun start (Some e) = start ≤ e.generation

  -- What holds of a store's slots and of the set of its free slots.
  pub record IsSlotTable (p : SlotTable T) : Type 0 where
    -- the free slots are those that may be used again
    pub pooled : (k : ℕ) → set.contains p.free k ≡ is_reusable (slice_get p.slots k)
    -- there is room for all of them
    pub roomy : length p.slots ≤ p.rooms
    -- no slot's generation is below the first one
    pub begun : (k : ℕ) → EntryHasBegun p.start (slice_get p.slots k)
    -- the slots that are live or free are counted, and the free ones
    pub counted : p.counts.usable ≡ how_many (λ e. is_live e.kept) p.slots + set.len p.free
    pub stocked : set.len p.free ≡ how_many is_spent p.slots
    -- a slot is made only if none is free: so the live and the free ones are no more than the peak, which
    -- is no more than there are slots
    pub few : p.counts.usable ≤ p.counts.peak
    pub bounded : p.counts.peak ≤ length p.slots

  -- how many references of the slots name a cell
  abbrev pub refers : Name → Entry T → Bool
  refers m e = refers_to m (cell_of e.kept)

  -- a shared cell's count is right except for some
  abbrev pub IsReferred : List (Entry T) → (Name → ℕ) → ℕ → Option (Entry T) → Type 0
  IsReferred slots less k None = Unit {0}
  IsReferred slots less k (Some e) =
      let m : Name = record { slot = k; generation = e.generation } in
      is_shared (cell_of e.kept) ≡ true → e.references + less m ≡ how_many (refers m) slots

  -- so many references that name a shared cell aren't counted there
  pub record AreReferred (less : Name → ℕ) (slots : List (Entry T)) : Type 0 where
    pub each : (k : ℕ) → IsReferred slots less k (slice_get slots k)

  -- the slots in which a name's slot counts another reference, and one less
  abbrev pub count_more : List (Entry T) → Option Name → List (Entry T)
  count_more slots None = slots
  count_more slots (Some m) =
      change_entry slots m.slot (λ e. record e { references = e.references + 1 })

  abbrev pub count_less : List (Entry T) → Option Name → List (Entry T)
  count_less slots None = slots
  count_less slots (Some m) =
      change_entry slots m.slot (λ e. record e { references = e.references - 1 })

  -- whether a name's slot counts another number of references
  abbrev pub has_other_count_in : ℕ → Option (Entry T) → Bool
  has_other_count_in last None = false
  has_other_count_in last (Some e) = not (nat_eq e.references last)

  abbrev pub has_other_count : List (Entry T) → ℕ → Name → Bool
  has_other_count slots last m = has_other_count_in last (slice_get slots m.slot)

  -- The value that goes when a name ends: its own, or its target, unless that is named still.
  abbrev pub would_end : (Name → Bool) → Option (Cell T) → Name → Option Name
  would_end named (Some (Value c l)) n = Some n
  would_end named (Some (Ref m l)) n = if named m then None else Some m
  would_end named _ n = None

  -- what hinders the end of a value, if there is one: a borrow of it
  abbrev pub refusal_of : NameMap (Cell T) → Option Name → Option BorrowRefusal
  refusal_of cells None = None
  refusal_of cells (Some m) = write_refusal (content_of (map.get cells m))

  -- the borrowed value that a name reaches: its own, or the one that its reference names
  abbrev pub if_borrowed : NameMap (Cell T) → Option Name → Option Name
  if_borrowed cells None = None
  if_borrowed cells (Some m) = if is_some (refusal_of cells (Some m)) then Some m else None

  abbrev pub borrowed_at : List (Entry T) → Name → Option Name
  borrowed_at slots n = if_borrowed (cells_of slots) (leads_to (cell_under slots n) n)

  -- another cell, under a new name, for which there was room or memory
  pub record IsMade (s r : SlotsState T) (cell : Option (Cell T)) (n : Name) : Type 0 where
    pub fits : IsNew s.state n
    pub added : IfSome cell (λ c. r.state ≡ add_cell s.state n c)
    pub room : s.spare ≤ r.spare + 1

-- the result of the end of names: nothing hindered it and they have ended, or the first borrow that does,
-- and nothing has changed
abbrev pub IsEndReply : {T : Type 0} → State T → State T → List Name
    → Result (Unit {0}) (Refused BorrowMutError) → Type 0
IsEndReply S R names (Ok u) = (hindrance_to S names ≡ None) × (R ≡ close S names)
IsEndReply S R names (Err e) = FoundBorrowed (hindrance_to S names) (Err e) × (R ≡ S)

-- a call that points a reference to another value does and returns what the machine does
abbrev pub IsTurned : {T : Type 0} → State T → State T → Result (Unit {0}) (Refused BorrowMutError)
    → Outcome T → Type 0
IsTurned S R result (Done, after) = (IsTrue (is_ok result)) × (R ≡ after)
IsTurned S R result (BorrowRefused t, after) = FoundBorrowed (Some t) result × (R ≡ S)
IsTurned S R result _ = ⊥
