-- A slot as modelled in contracts: its generation, and its live cell.
use Rattle.std.specs.Prelude.{◌≡◌, ℕ, Bool, true, false, not, nat_eq, if◌then◌else◌, List, []}
use Rattle.std.specs.Prelude.{◌∷◌, ◌++◌, Option, Some, None, Result, Ok, Err, map as list_map}
use Rattle.std.specs.Prelude.{is_none, is_some, slice_get, slice_set}
use Rattle.std.specs.List.{filter}
use Rattle.generational_errors.specs.declared.error.Location.{Location}
use Rattle.generational_errors.specs.declared.error.BorrowMutError.{BorrowMutError}
use Rattle.generational_errors.specs.declared.error.StoreError.TheVariants.{OutOfMemory}
use Rattle.generational_errors.specs.declared.error.Refused.{Refused}
use Rattle.generational_errors.specs.declared.error.Refused.TheVariants as refused
use Rattle.generational_core.specs.declared.borrow.Borrow.{Borrow}
use Rattle.store_cells.specs.declared.entry.CellKind.{CellKind}
use Rattle.store_cells.specs.declared.entry.CellKind.TheVariants as kind
use Rattle.generational_core.specs.Names.{Name}
use Rattle.generational_core.specs.Cells.{Content, Cell}
use Rattle.generational_core.specs.Cells.Cell.{Value, Shared, Ref}
use Rattle.generational_core.specs.Cells.Content.{Here, Lent}
use Rattle.generational_core.specs.Borrowing.{BorrowRefusal, write_refusal}
use Rattle.generational_core.specs.Borrowing.BorrowRefusal.{BeingRead}
use Rattle.generational_core.specs.Machine.{has_reader}
use Rattle.generational_core.specs.Answers.{refusal_of_error, value_of}

-- What a slot has: nothing; a live value with its borrows, a box's own or a shared one; or a
-- reference. The location is where the cell was made.
pub data Kept (T : Type 0) : Type 0 where
  Empty : Kept T
  Live : (kind : CellKind) (content : Content T) (created : Location) → Kept T
  Refers : (target : Name) (created : Location) → Kept T

-- A slot: the generation of its last cell, that cell while it is live, and how many references
-- name it.
pub record Entry (T : Type 0) : Type 0 where
  pub generation : ℕ
  pub kept : Kept T
  pub references : ℕ

module _ {T : Type 0} where
  -- the machine's cell
  abbrev pub cell_of : Kept T → Option (Cell T)
  cell_of Empty = None
  cell_of (Live kind.Value c l) = Some (Value c l)
  cell_of (Live kind.Shared c l) = Some (Shared c l)
  cell_of (Refers m l) = Some (Ref m l)

  -- whose value a cell is
  abbrev pub cell_kind_in : Option (Cell T) → Option CellKind
  cell_kind_in (Some (Value c l)) = Some kind.Value
  cell_kind_in (Some (Shared c l)) = Some kind.Shared
  cell_kind_in _ = None

  -- whether a cell is a value of its own without borrows
  abbrev pub is_unborrowed_value : Option (Cell T) → Bool
  is_unborrowed_value (Some (Value c l)) = is_none (write_refusal (Some c))
  is_unborrowed_value _ = false

  -- what a cell names, if it is a Ref
  abbrev pub target_name_in : Option (Cell T) → Option Name
  target_name_in (Some (Ref m l)) = Some m
  target_name_in _ = None

  -- what is at a generation of a slot
  abbrev pub cell_in : Option (Entry T) → ℕ → Option (Cell T)
  cell_in None g = None
  cell_in (Some e) g = if nat_eq g e.generation then cell_of e.kept else None

  -- what is at a name
  abbrev pub cell_under : List (Entry T) → Name → Option (Cell T)
  cell_under slots n = cell_in (slice_get slots n.slot) n.generation

  -- the slots with the i-th one changed by f, if there is one
  abbrev pub change_entry_if : List (Entry T) → ℕ → (Entry T → Entry T)
      → Option (Entry T) → List (Entry T)
  change_entry_if slots i f None = slots
  change_entry_if slots i f (Some e) = slice_set slots i (f e)

  abbrev pub change_entry : List (Entry T) → ℕ → (Entry T → Entry T) → List (Entry T)
  change_entry slots i f = change_entry_if slots i f (slice_get slots i)

  abbrev pub content_in : Kept T → Option (Content T)
  content_in (Live k c l) = Some c
  content_in _ = None

  -- the readers of a content
  abbrev pub readers_of : Option (Content T) → List Borrow
  readers_of (Some (Here v readers)) = readers
  readers_of _ = []

  abbrev pub is_live : Kept T → Bool
  is_live Empty = false
  is_live _ = true

  -- another content of a live cell
  abbrev pub with_cell_content : (Content T → Content T) → Kept T → Kept T
  with_cell_content f (Live k c l) = Live k (f c) l
  with_cell_content f kept = kept

  -- a reference that names another cell
  abbrev pub referring : Name → Kept T → Kept T
  referring m (Refers old l) = Refers m l
  referring m kept = kept

  -- a reader at the end of the list
  abbrev pub one_read : Borrow → Content T → Content T
  one_read b (Here v readers) = Here v (readers ++ b ∷ [])
  one_read b (Lent w) = Lent w

  abbrev pub with_reader : Borrow → Kept T → Kept T
  with_reader b = with_cell_content (one_read b)

  -- the readers without the ticket's own
  abbrev pub less_read : ℕ → Content T → Content T
  less_read t (Here v readers) = Here v (filter (λ r. not (nat_eq r.ticket t)) readers)
  less_read t (Lent w) = Lent w

  abbrev pub without_reader_in : ℕ → Kept T → Kept T
  without_reader_in t = with_cell_content (less_read t)

  -- whether a content has no borrows
  abbrev pub has_no_borrow : Option (Content T) → Bool
  has_no_borrow (Some (Here v [])) = true
  has_no_borrow _ = false

  -- the content lent to a writer
  abbrev pub lend_to : Borrow → Kept T → Kept T
  lend_to w = with_cell_content (λ c. Lent w)

  -- a value without borrows
  abbrev pub with_value : T → Kept T → Kept T
  with_value v = with_cell_content (λ c. Here v [])

  -- a cell of this generation, without borrows
  abbrev pub IsAlone : ℕ → Option (Entry T) → Type 0
  IsAlone generation None = ⊥
  IsAlone generation (Some e) =
      (e.generation ≡ generation) × (has_no_borrow (content_in e.kept) ≡ true)

  -- a cell of this generation with a value that isn't lent
  abbrev pub IsReadable : ℕ → Option (Entry T) → Type 0
  IsReadable generation None = ⊥
  IsReadable generation (Some e) =
      (e.generation ≡ generation) × (is_some (value_of (content_in e.kept)) ≡ true)

  -- the value, if the ticket is a reader's
  abbrev pub value_for : ℕ → Option (Content T) → Option T
  value_for t c = if has_reader c t then value_of c else None

-- the locations of these readers, unless their list can't be allocated
abbrev pub FoundReaders : List Borrow → Refused BorrowMutError → Type 0
FoundReaders readers (refused.Borrow e) =
    refusal_of_error e ≡ BeingRead (list_map (λ r. r.location) readers)
FoundReaders readers (refused.Store OutOfMemory) = Unit {0}
FoundReaders readers (refused.Store _) = ⊥

-- readers are in the way
abbrev pub IsBeingRead : Option BorrowRefusal → Type 0
IsBeingRead (Some (BeingRead ls)) = Unit {0}
IsBeingRead _ = ⊥

-- the result of a call with this error, or none, unless its list can't be allocated
abbrev pub FoundBorrowed : Option BorrowRefusal → Result (Unit {0}) (Refused BorrowMutError) → Type 0
FoundBorrowed refusal (Ok u) = refusal ≡ None
FoundBorrowed refusal (Err (refused.Borrow e)) = refusal ≡ Some (refusal_of_error e)
FoundBorrowed refusal (Err (refused.Store OutOfMemory)) = IsBeingRead refusal
FoundBorrowed refusal (Err (refused.Store _)) = ⊥
