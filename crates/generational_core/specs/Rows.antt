-- What a state has, in rows, and how rows are read back.
use Rattle.std.specs.Prelude.{◌≡◌, ℕ, zero, suc, List, [], ◌∷◌, ◌++◌, Option, None, Some}
use Rattle.std.specs.Prelude.{map as list_map}
use Rattle.std.specs.FinMap as map
use Rattle.std.specs.FinSet as set
use Rattle.generational_core.specs.declared.borrow.Borrow.{Borrow}
use Rattle.generational_core.specs.declared.boxes.GenerationalBoxId.{GenerationalBoxId}
use Rattle.generational_core.specs.declared.rows.BaseRow.{BaseRow}
use Rattle.generational_core.specs.declared.rows.BaseRow.TheVariants as row
use Rattle.generational_core.specs.Boxes.{id_of, name_in}
use Rattle.generational_core.specs.Cells.{Cell, Content, refill}
use Rattle.generational_core.specs.Cells.Cell.{Value, Shared, Ref}
use Rattle.generational_core.specs.Cells.Content.{Here, Lent}
use Rattle.generational_core.specs.Conditions.{fresh}
use Rattle.generational_core.specs.Names.{Name, NameMap, Names, change}
use Rattle.generational_core.specs.Plain.{Plain, plain}
use Rattle.generational_core.specs.Slots.{slots_of}
use Rattle.generational_core.specs.State.{Ownership, State, one_listed}

-- ---- the rows of a state

abbrev pub reader_row : GenerationalBoxId → Borrow → BaseRow
reader_row id b = row.Reader id b.ticket b.location

-- an owner's record with its key
abbrev pub record_rows : ℕ → ℕ × Ownership → List BaseRow
record_rows number e =
    row.Owner e.0 e.1.count ∷ list_map (λ n. row.Owned e.0 (id_of number n)) e.1.names

-- all records, in this order
abbrev pub owner_rows : ℕ → List (ℕ × Ownership) → List BaseRow
owner_rows number [] = []
owner_rows number (e ∷ records) = record_rows number e ++ owner_rows number records

module _ {T : Type 0} where
  -- the borrows of a value, in the order in which they began
  abbrev pub borrow_rows : GenerationalBoxId → Content T → List BaseRow
  borrow_rows id (Here v readers) = list_map (reader_row id) readers
  borrow_rows id (Lent w) = row.Writer id w.ticket w.location ∷ []

  abbrev pub content_rows : GenerationalBoxId → Option (Content T) → List BaseRow
  content_rows id None = []
  content_rows id (Some c) = borrow_rows id c

  -- the cell of a name, if it is live, and its borrows
  abbrev pub cell_rows : ℕ → Name → Option (Cell T) → List BaseRow
  cell_rows number n None = []
  cell_rows number n (Some (Value c l)) = row.Value (id_of number n) l ∷ borrow_rows (id_of number n) c
  cell_rows number n (Some (Shared c l)) =
      row.Shared (id_of number n) l ∷ borrow_rows (id_of number n) c
  cell_rows number n (Some (Ref m l)) = row.Ref (id_of number n) (id_of number m) l ∷ []

  -- slots with their last generations, in this order, and each one's live cell after it
  abbrev pub slot_rows : ℕ → NameMap (Cell T) → List (ℕ × ℕ) → List BaseRow
  slot_rows number cells [] = []
  slot_rows number cells (e ∷ slots) =
      let last : Name = record { slot = e.0; generation = e.1 } in
      (row.Slot e.0 e.1 ∷ cell_rows number last (map.get cells last))
      ++ slot_rows number cells slots

  -- the slots ascending, and then the owners' records by their keys
  abbrev pub rows_of : State T → List BaseRow
  rows_of S =
      slot_rows S.number S.cells (map.entries (slots_of S))
      ++ owner_rows S.number (map.entries S.owners)

-- ---- rows that are read back

-- the names of a slot from the first one to this generation are issued
abbrev pub give_up_to : ℕ → ℕ → Names → Names
give_up_to slot zero given = given
give_up_to slot (suc g) given =
    set.insert (give_up_to slot g given) (record { slot = slot; generation = suc g })

-- another borrow at a cell
abbrev pub read_more : Borrow → Content (Unit {0}) → Content (Unit {0})
read_more b (Here v readers) = Here v (readers ++ b ∷ [])
read_more b (Lent w) = Lent w

abbrev pub one_reader : Borrow → Cell (Unit {0}) → Cell (Unit {0})
one_reader b (Value c l) = Value (read_more b c) l
one_reader b (Shared c l) = Shared (read_more b c) l
one_reader b (Ref m l) = Ref m l

-- what one row adds to a state without values
abbrev pub read_row : Plain → BaseRow → Plain
read_row P (row.Slot s g) = record P { given = give_up_to s g P.given }
read_row P (row.Value id l) =
    record P { cells = map.insert P.cells (name_in id) (Value (Here tt []) l) }
read_row P (row.Shared id l) =
    record P { cells = map.insert P.cells (name_in id) (Shared (Here tt []) l) }
read_row P (row.Ref id target l) =
    record P { cells = map.insert P.cells (name_in id) (Ref (name_in target) l) }
read_row P (row.Reader id t l) = record P {
  cells = change P.cells (name_in id) (one_reader (record { ticket = t; location = l }));
}
read_row P (row.Writer id t l) = record P {
  cells = change P.cells (name_in id) (refill (Lent (record { ticket = t; location = l })));
}
read_row P (row.Owner k c) =
    record P { owners = map.insert P.owners k (record { names = []; count = c }) }
read_row P (row.Owned k id) =
    record P { owners = change P.owners k (one_listed (name_in id)) }

-- and what all of them do, one after the other
abbrev pub read_rows : Plain → List BaseRow → Plain
read_rows P [] = P
read_rows P (r ∷ rows) = read_rows (read_row P r) rows

-- the state that rows determine, of a store with this number, next ticket and peak, in which generations
-- begin at 1
abbrev pub told_by : ℕ → ℕ → ℕ → List BaseRow → Plain
told_by number next peak rows = read_rows (record (fresh number 1 next) { peak = peak }) rows

-- rows determine this state without its values, if its generations begin at 1
abbrev pub ReadBack : {T : Type 0} → State T → List BaseRow → Type 0
ReadBack S rows = S.start ≡ 1 → told_by S.number S.next S.peak rows ≡ plain S
