-- The rows of a state list its live values.
use Rattle.std.proofs.Common.{◌≡◌, ◌≢◌, ◌++◌, ◌∙◌, ℕ, suc, zero, List, [], ◌∷◌, Option, None, Some, true, false, Bool, cond}
use Rattle.std.proofs.Common.{ap, arith, inl, inr, refl, sym, subst, is_some, slice_get, ⊎_elim}
use Rattle.std.specs.Prelude.{◌⊎◌, map as list_map, unwrap_or}
use Rattle.std.specs.FinMap as map
use Rattle.std.proofs.lemmas.Option.{same_Some}
use Rattle.std.specs.FinMap.Entries.{find}
use Rattle.std.specs.Ordering.{eq_by_cmp, nat_cmp}
use Rattle.generational_core.proofs.machine.{slot_made}
use Rattle.generational_core.proofs.machine.Calls.{seen_reached}
use Rattle.generational_core.proofs.machine.Calls.Steps.{reaches}
use Rattle.generational_core.proofs.maps.Maps.{by_number, by_option, key_cases, named_gives, key_here, key_same, key_apart}
use Rattle.generational_core.specs.Boxes.{box_of, id_of, name_in, name_of}
use Rattle.generational_core.specs.Cells.{Cell, Content, content_of, is_shared}
use Rattle.generational_core.specs.Conditions.{IsNamed}
use Rattle.generational_core.specs.State.{is_named}
use Rattle.generational_core.specs.Cells.Cell.{Ref, Shared, Value}
use Rattle.generational_core.specs.Cells.Content.{Here, Lent}
use Rattle.generational_core.specs.Conditions.{IsBounded}
use Rattle.generational_core.specs.Keeping.{box_with}
use Rattle.generational_core.specs.Leaving.{HasNoBorrows}
use Rattle.generational_core.specs.Names.{Name, NameMap}
use Rattle.generational_core.specs.Rows.{borrow_rows, cell_rows, owner_rows, reader_row, record_rows, rows_of, slot_rows}
use Rattle.generational_core.specs.Rows.{content_rows}
use Rattle.generational_core.specs.Seeing.{value_in, value_reached}
use Rattle.generational_core.specs.Borrowing.{leads_to, reach}
use Rattle.generational_laws.proofs.callers.{seen_reach}
use Rattle.std.specs.Prelude.{nat_eq}
use Rattle.std.proofs.lemmas.List.{append-nil}
use Rattle.generational_core.specs.Slots.{slots_of}
use Rattle.generational_core.specs.State.{IsSound, Ownership, State, tickets_at, tickets_of}
use Rattle.generational_core.specs.declared.borrow.Borrow.{Borrow}
use Rattle.generational_core.specs.declared.boxes.GenerationalBoxId.{GenerationalBoxId}
use Rattle.generational_core.specs.declared.boxes.GenerationalPointer.{GenerationalPointer}
use Rattle.generational_core.specs.declared.rows.BaseRow.{BaseRow}
use Rattle.generational_core.specs.declared.rows.BaseRow.TheVariants as row
use Rattle.generational_errors.specs.declared.error.Location.{Location}
use Rattle.generational_laws.specs.PlainStores.{HasNoReferences, IsSimple}
use Rattle.live_cells.specs.Cells.{fault_of, first_fault, IsCellFault, IsSharing, listed_cells, or_else}
use Rattle.live_cells.specs.declared.cells.CellFault.{CellFault}
use Rattle.live_cells.specs.declared.cells.CellFault.TheVariants.{Borrowed, OutOfMemory}
use Rattle.live_cells.specs.declared.cells.CellFault.TheVariants as fault

-- ==== lists

-- what one of two lists has, their concatenation has
get_left : {X : Type 0} (xs ys : List X) (k : ℕ) (x : X) → slice_get xs k ≡ Some x
    → (j : ℕ) × (slice_get (xs ++ ys) j ≡ Some x)
get_left [] ys k x is = cc
get_left (y ∷ xs) ys zero x is = (0, is)
get_left (y ∷ xs) ys (suc k) x is = let at = get_left xs ys k x is in (suc at.0, at.1)

get_right : {X : Type 0} (xs ys : List X) (k : ℕ) (x : X) → slice_get ys k ≡ Some x
    → (j : ℕ) × (slice_get (xs ++ ys) j ≡ Some x)
get_right [] ys k x is = (k, is)
get_right (y ∷ xs) ys k x is = let at = get_right xs ys k x is in (suc at.0, at.1)

get_either : {X : Type 0} (xs ys : List X) (k : ℕ) (x : X) → slice_get (xs ++ ys) k ≡ Some x
    → ((j : ℕ) × (slice_get xs j ≡ Some x)) ⊎ ((j : ℕ) × (slice_get ys j ≡ Some x))
get_either [] ys k x is = inr (k, is)
get_either (y ∷ xs) ys zero x is = inl (0, is)
get_either (y ∷ xs) ys (suc k) x is =
    ⊎_elim (λ at. inl (suc at.0, at.1)) (λ at. inr at) (get_either xs ys k x is)

-- ==== rows

either_none : (f g : Option CellFault) → or_else f g ≡ None → (f ≡ None) × (g ≡ None)
either_none f g is = grind arith

first_both : (xs ys : List BaseRow) → first_fault (xs ++ ys) ≡ or_else (first_fault xs) (first_fault ys)
first_both [] ys = refl
first_both (r ∷ xs) ys = by (fault_of r) (first_both xs ys)
  where
    by : (f : Option CellFault) → first_fault (xs ++ ys) ≡ or_else (first_fault xs) (first_fault ys)
        → or_else f (first_fault (xs ++ ys)) ≡ or_else (or_else f (first_fault xs)) (first_fault ys)
    by None rest = rest
    by (Some f) rest = refl

listed_both : (xs ys : List BaseRow) → listed_cells (xs ++ ys) ≡ listed_cells xs ++ listed_cells ys
listed_both [] ys = refl
listed_both (row.Value id l ∷ xs) ys = ap (λ cells. record { id = id; created_at = l } ∷ cells) (listed_both xs ys)
listed_both (row.Slot s g ∷ xs) ys = listed_both xs ys
listed_both (row.Shared id l ∷ xs) ys = listed_both xs ys
listed_both (row.Ref id target l ∷ xs) ys = listed_both xs ys
listed_both (row.Reader id t l ∷ xs) ys = listed_both xs ys
listed_both (row.Writer id t l ∷ xs) ys = listed_both xs ys
listed_both (row.Owner k n ∷ xs) ys = listed_both xs ys
listed_both (row.Owned k id ∷ xs) ys = listed_both xs ys

-- owners' records list no cells
owned_none : (number k : ℕ) (names : List Name)
    → listed_cells (list_map (λ n. row.Owned k (id_of number n)) names) ≡ []
owned_none number k [] = refl
owned_none number k (n ∷ names) = owned_none number k names

owners_none : (number : ℕ) (records : List (ℕ × Ownership)) → listed_cells (owner_rows number records) ≡ []
owners_none number [] = refl
owners_none number (e ∷ records) = listed_both (record_rows number e) (owner_rows number records)
    ∙ (ap (λ cells. cells ++ listed_cells (owner_rows number records)) (owned_none number e.0 e.1.names)
    ∙ owners_none number records)

owned_right : (number k : ℕ) (names : List Name)
    → first_fault (list_map (λ n. row.Owned k (id_of number n)) names) ≡ None
owned_right number k [] = refl
owned_right number k (n ∷ names) = owned_right number k names

owners_right : (number : ℕ) (records : List (ℕ × Ownership)) → first_fault (owner_rows number records) ≡ None
owners_right number [] = refl
owners_right number (e ∷ records) = first_both (record_rows number e) (owner_rows number records)
    ∙ (ap (λ f. or_else f (first_fault (owner_rows number records))) (owned_right number e.0 e.1.names)
    ∙ owners_right number records)

readers_none : (id : GenerationalBoxId) (readers : List Borrow) → listed_cells (list_map (reader_row id) readers) ≡ []
readers_none id [] = refl
readers_none id (b ∷ readers) = readers_none id readers

not_empty : {X : Type 0} (x : X) (xs : List X) → x ∷ xs ≢ []
not_empty x xs is = cc

same_number : (a b : ℕ) → nat_eq a b ≡ true → a ≡ b
same_number a b is = grind arith

module _ {T : Type 0} where
  -- a value without a borrow, or nothing
  abbrev IsPlainCell : Option (Cell T) → Type 0
  IsPlainCell None = Unit {0}
  IsPlainCell (Some (Value (Here v []) l)) = Unit {0}
  IsPlainCell _ = ⊥

  -- the fault is true of the cell of a name
  abbrev IsFaultAt : Name → Option (Cell T) → CellFault → Type 0
  IsFaultAt n x (Borrowed slot) = (n.slot ≡ slot) × (tickets_of (content_of x) ≢ [])
  IsFaultAt n x (fault.Shared slot) = (n.slot ≡ slot) × IsSharing x
  IsFaultAt n x OutOfMemory = Unit {0}

  -- ---- the rows of a cell

  cell_right : (number : ℕ) (n : Name) (x : Option (Cell T)) → first_fault (cell_rows number n x) ≡ None
      → IsPlainCell x
  cell_right number n None is = tt
  cell_right number n (Some (Value (Here v []) l)) is = tt
  cell_right number n (Some (Value (Here v (r ∷ rs)) l)) is = cc
  cell_right number n (Some (Value (Lent w) l)) is = cc
  cell_right number n (Some (Shared c l)) is = cc
  cell_right number n (Some (Ref m l)) is = cc

  cell_faulty : (number : ℕ) (n : Name) (x : Option (Cell T)) (f : CellFault)
      → first_fault (cell_rows number n x) ≡ Some f → IsFaultAt n x f
  cell_faulty number n None f is = cc
  cell_faulty number n (Some (Value (Here v []) l)) f is = cc
  cell_faulty number n (Some (Value (Here v (r ∷ rs)) l)) f is =
      subst (IsFaultAt n (Some (Value (Here v (r ∷ rs)) l))) (same_Some _ _ is) (refl, not_empty _ _)
  cell_faulty number n (Some (Value (Lent w) l)) f is =
      subst (IsFaultAt n (Some (Value (Lent w) l))) (same_Some _ _ is) (refl, not_empty _ _)
  cell_faulty number n (Some (Shared c l)) f is = subst (IsFaultAt n (Some (Shared c l))) (same_Some _ _ is) (refl, tt)
  cell_faulty number n (Some (Ref m l)) f is = subst (IsFaultAt n (Some (Ref m l))) (same_Some _ _ is) (refl, tt)

  -- a cell's rows list it, if it is a value
  cell_listed : (number : ℕ) (n : Name) (c : Content T) (l : Location)
      → listed_cells (cell_rows number n (Some (Value c l))) ≡ box_of number n l ∷ []
  cell_listed number n (Here v readers) l =
      ap (λ cells. box_of number n l ∷ cells) (readers_none (id_of number n) readers)
  cell_listed number n (Lent w) l = refl

  unlisted : (number : ℕ) (n : Name) (x : Option (Cell T)) → IsSharing x
      → listed_cells (cell_rows number n x) ≡ []
  unlisted number n None is = absurd is
  unlisted number n (Some (Value c l)) is = absurd is
  unlisted number n (Some (Shared (Here v readers) l)) is = readers_none (id_of number n) readers
  unlisted number n (Some (Shared (Lent w) l)) is = refl
  unlisted number n (Some (Ref m l)) is = refl

  -- a box is that of a live value
  abbrev IsOf : ℕ → NameMap (Cell T) → GenerationalPointer → Type 0
  IsOf number cells b = (c : Content T) × (map.get cells (name_of b) ≡ Some (Value c b.created_at))
      × (b.id.store ≡ number)

  cell_shown : (number : ℕ) (cells : NameMap (Cell T)) (n : Name) (x : Option (Cell T)) → map.get cells n ≡ x
      → (k : ℕ) (b : GenerationalPointer) → slice_get (listed_cells (cell_rows number n x)) k ≡ Some b
      → IsOf number cells b
  cell_shown number cells n None at k b is = cc
  cell_shown number cells n (Some (Value c l)) at k b is = only k (subst (λ cells. slice_get cells k ≡ Some b) (cell_listed number n c l) is)
    where
      only : (k : ℕ) → slice_get (box_of number n l ∷ []) k ≡ Some b → IsOf number cells b
      only zero is = subst (IsOf number cells) (same_Some _ _ is) (c, at, refl)
      only (suc k) is = cc
  cell_shown number cells n (Some (Shared c l)) at k b is = cc (unlisted number n (Some (Shared c l)) tt)
  cell_shown number cells n (Some (Ref m l)) at k b is = cc

  -- ---- the rows of slots

  module _ (number : ℕ) (cells : NameMap (Cell T)) where
    abbrev last_in : ℕ × ℕ → Name
    last_in e = record { slot = e.0; generation = e.1 }

    abbrev here : ℕ × ℕ → List BaseRow
    here e = row.Slot e.0 e.1 ∷ cell_rows number (last_in e) (map.get cells (last_in e))

    slots_right : (slots : List (ℕ × ℕ)) → first_fault (slot_rows number cells slots) ≡ None
        → (s g : ℕ) → find nat_cmp s slots ≡ Some g
        → IsPlainCell (map.get cells (record { slot = s; generation = g }))
    slots_right [] right s g is = cc
    slots_right (e ∷ slots) right s g is =
        let both = either_none _ _ (sym (first_both (here e) (slot_rows number cells slots)) ∙ right) in
        ⊎_elim
        (λ same. subst (λ n. IsPlainCell (map.get cells n)) (same_name same)
        (cell_right number (last_in e) (map.get cells (last_in e)) both.0))
        (λ apart. slots_right slots both.1 s g (rw (key_apart by_number s e.0 apart) at is))
        (key_cases by_number s e.0)
      where
        same_name : s ≡ e.0 → last_in e ≡ record { slot = s; generation = g }
        same_name same = grind (arith, key_here by_number s)

    slots_faulty : (slots : List (ℕ × ℕ)) (f : CellFault) → first_fault (slot_rows number cells slots) ≡ Some f
        → (n : Name) × IsFaultAt n (map.get cells n) f
    slots_faulty [] f is = cc
    slots_faulty (e ∷ slots) f is = by (first_fault (here e)) refl (slots_faulty slots f)
        (sym (first_both (here e) (slot_rows number cells slots)) ∙ is)
      where
        by : (o : Option CellFault) → first_fault (here e) ≡ o
            → (first_fault (slot_rows number cells slots) ≡ Some f → (n : Name) × IsFaultAt n (map.get cells n) f)
            → or_else o (first_fault (slot_rows number cells slots)) ≡ Some f → (n : Name) × IsFaultAt n (map.get cells n) f
        by None none rest is = rest is
        by (Some h) has rest is = (last_in e, cell_faulty number (last_in e) (map.get cells (last_in e)) f (has ∙ is))

    slots_shown : (slots : List (ℕ × ℕ)) (k : ℕ) (b : GenerationalPointer)
        → slice_get (listed_cells (slot_rows number cells slots)) k ≡ Some b → IsOf number cells b
    slots_shown [] k b is = cc
    slots_shown (e ∷ slots) k b is = ⊎_elim
        (λ at. cell_shown number cells (last_in e) (map.get cells (last_in e)) refl at.0 b at.1)
        (λ at. slots_shown slots at.0 b at.1)
        (get_either (listed_cells (here e)) (listed_cells (slot_rows number cells slots)) k b
        (rw (listed_both (here e) (slot_rows number cells slots)) at is))

    slots_every : (slots : List (ℕ × ℕ)) (s g : ℕ) → find nat_cmp s slots ≡ Some g
        → (c : Content T) (l : Location) → map.get cells (record { slot = s; generation = g }) ≡ Some (Value c l)
        → (k : ℕ) × (slice_get (listed_cells (slot_rows number cells slots)) k
        ≡ Some (box_of number (record { slot = s; generation = g }) l))
    slots_every [] s g is c l there = cc
    slots_every (e ∷ slots) s g is c l there = rw (listed_both (here e) (slot_rows number cells slots)) (⊎_elim
        (λ same. get_left (listed_cells (here e)) (listed_cells (slot_rows number cells slots)) 0 _ (first same))
        (λ apart.
        let at = slots_every slots s g (rw (key_apart by_number s e.0 apart) at is) c l there in
        get_right (listed_cells (here e)) (listed_cells (slot_rows number cells slots)) at.0 _ at.1)
        (key_cases by_number s e.0))
      where
        same_name : s ≡ e.0 → last_in e ≡ record { slot = s; generation = g }
        same_name same = grind (arith, key_here by_number s)

        first : s ≡ e.0 → slice_get (listed_cells (here e)) 0
            ≡ Some (box_of number (record { slot = s; generation = g }) l)
        first same = rw (same_name same, there)
            (ap (λ cells. slice_get cells 0) (cell_listed number (record { slot = s; generation = g }) c l))

  -- ==== states

  module _ (S : State T) (sound : IsSound S) (bounded : IsBounded S) where
    -- a live cell has the last name of its slot
    live_last : (n : Name) (c : Cell T) → map.get S.cells n ≡ Some c
        → find nat_cmp n.slot (map.entries (slots_of S)) ≡ Some n.generation
    live_last n c there =
        let live : is_some (map.get S.cells n) ≡ true = ap is_some there in
        let made = slot_made S n (sound.given n live) in
        let last = ap (λ m. m.generation) (bounded.last n live) in
        sym (map.get-entries (slots_of S) n.slot) ∙ known (map.get (slots_of S) n.slot) n.generation made (sym last)
      where
        known : (o : Option ℕ) (g : ℕ) → is_some o ≡ true → unwrap_or o 0 ≡ g → o ≡ Some g
        known None g made last = cc
        known (Some x) g made last = ap Some last

    module _ (right : first_fault (rows_of S) ≡ None) where
      plain_at : (n : Name) → IsPlainCell (map.get S.cells n)
      plain_at n = by_option (map.get S.cells n) (λ none. rw none tt)
          (λ c there. slots_right S.number S.cells (map.entries (slots_of S))
          ((either_none _ _ (sym (first_both (slot_rows S.number S.cells (map.entries (slots_of S)))
          (owner_rows S.number (map.entries S.owners))) ∙ right)).0) n.slot n.generation (live_last n c there))

      free : (x : Option (Cell T)) → IsPlainCell x → tickets_of (content_of x) ≡ []
      free None is = refl
      free (Some (Value (Here v []) l)) is = refl
      free (Some (Value (Here v (r ∷ rs)) l)) is = absurd is
      free (Some (Value (Lent w) l)) is = absurd is
      free (Some (Shared c l)) is = absurd is
      free (Some (Ref m l)) is = absurd is

      no_ref : (x : Option (Cell T)) → IsPlainCell x → (m : Name) (l : Location) → x ≡ Some (Ref m l) → ⊥
      no_ref x is m l there = subst IsPlainCell there is

      pub plain_simple : IsSimple S
      plain_simple = record {
        unborrowed = record { none = λ n. free (map.get S.cells n) (plain_at n) };
        plain = record { none = λ n m l is. no_ref (map.get S.cells n) (plain_at n) m l is };
        bounded = bounded;
      }

      here_seen : (b : GenerationalPointer) (x : Option (Cell T)) → IsPlainCell x → map.get S.cells (name_of b) ≡ x
          → (c : Content T) (l : Location) → x ≡ Some (Value c l) → b.id.store ≡ S.number → is_some (value_in S b) ≡ true
      unfolding value_in reach
      here_seen b None is there c l same own = cc
      here_seen b (Some (Value (Here v []) k)) is there c l same own = grind arith
      here_seen b (Some (Value (Here v (r ∷ rs)) k)) is there c l same own = absurd is
      here_seen b (Some (Value (Lent w) k)) is there c l same own = absurd is
      here_seen b (Some (Shared d k)) is there c l same own = absurd is
      here_seen b (Some (Ref m k)) is there c l same own = absurd is

      pub listed_live : (cells : List GenerationalPointer) → cells ≡ listed_cells (rows_of S)
          → (k : ℕ) (b : GenerationalPointer) → slice_get cells k ≡ Some b
          → (box_with S b.id ≡ Some b) × (is_some (value_in S b) ≡ true)
      listed_live cells listed k b is =
          let own = slots_shown S.number S.cells (map.entries (slots_of S)) k b (rw only at is) in
          (grind (arith, own.1, own.2), here_seen b (map.get S.cells (name_of b)) (plain_at (name_of b)) refl own.0 b.created_at own.1 own.2)
        where
          only : cells ≡ listed_cells (slot_rows S.number S.cells (map.entries (slots_of S)))
          only =
              let slots = slot_rows S.number S.cells (map.entries (slots_of S)) in
              listed ∙ (listed_both slots (owner_rows S.number (map.entries S.owners))
              ∙ (ap (λ cells. listed_cells slots ++ cells) (owners_none S.number (map.entries S.owners))
              ∙ append-nil (listed_cells slots)))

      pub listed_all : (cells : List GenerationalPointer) → cells ≡ listed_cells (rows_of S)
          → (b : GenerationalPointer) → is_some (value_in S b) ≡ true
          → (k : ℕ) × (c : GenerationalPointer) × (slice_get cells k ≡ Some c) × (c.id ≡ b.id)
      listed_all cells listed b seen =
          let to = seen_reach S b seen in
          let led = reaches S b to.0 to.1 in
          by (map.get S.cells (name_of b)) (plain_at (name_of b)) refl to.0 led.leads (same_number _ _ led.number)
        where
          by : (x : Option (Cell T)) → IsPlainCell x → map.get S.cells (name_of b) ≡ x
              → (m : Name) → leads_to (map.get S.cells (name_of b)) (name_of b) ≡ Some m → b.id.store ≡ S.number
              → (k : ℕ) × (c : GenerationalPointer) × (slice_get cells k ≡ Some c) × (c.id ≡ b.id)
          by None is there m leads own = cc
          by (Some (Value (Here v []) l)) is there m leads own =
              let at = slots_every S.number S.cells (map.entries (slots_of S)) b.id.slot b.id.generation
              (live_last (name_of b) (Value (Here v []) l) there) (Here v []) l there in
              let whole = get_left (listed_cells (slot_rows S.number S.cells (map.entries (slots_of S))))
              (listed_cells (owner_rows S.number (map.entries S.owners))) at.0 _ at.1 in
              (whole.0, box_of S.number (name_of b) l, grind (arith, listed, listed_both, whole.1), grind (arith, own))
          by (Some (Value (Here v (r ∷ rs)) l)) is there m leads own = absurd is
          by (Some (Value (Lent w) l)) is there m leads own = absurd is
          by (Some (Shared d l)) is there m leads own = absurd is
          by (Some (Ref n l)) is there m leads own = absurd is

  module _ (S : State T) where
    faulty_part : (f : CellFault) → first_fault (rows_of S) ≡ Some f
        → first_fault (slot_rows S.number S.cells (map.entries (slots_of S))) ≡ Some f
    faulty_part f is = grind (arith, first_both, owners_right)

    pub faulty : (f : CellFault) → first_fault (rows_of S) ≡ Some f → IsCellFault S f
    faulty f is = by f (slots_faulty S.number S.cells (map.entries (slots_of S)) f (faulty_part f is))
      where
        by : (f : CellFault) → (n : Name) × IsFaultAt n (map.get S.cells n) f → IsCellFault S f
        by (Borrowed slot) it = (it.0, it.1.0, it.1.1)
        by (fault.Shared slot) it = (it.0, it.1.0, it.1.1)
        by OutOfMemory it = tt

-- of a list of rows that is a state's
pub right_in : {T : Type 0} (S : State T) (rows : List BaseRow) → rows ≡ rows_of S → first_fault rows ≡ None
    → first_fault (rows_of S) ≡ None
right_in S rows is right = sym (ap first_fault is) ∙ right

pub fault_told : {T : Type 0} (S : State T) (rows : List BaseRow) (f : CellFault) → rows ≡ rows_of S
    → (f ≡ OutOfMemory) ⊎ (first_fault rows ≡ Some f) → IsCellFault S f
fault_told S rows f is told = ⊎_elim (λ short. subst (IsCellFault S) (sym short) tt)
    (λ first. faulty S f (sym (ap first_fault is) ∙ first)) told

-- ==== a store without references and borrows has no fault

module _ {T : Type 0} (S : State T) (sound : IsSound S) (simple : IsSimple S) where
  named_by : (m : Name) → is_named S.cells m ≡ true → IsNamed S.cells m
  named_by m is = named_gives S.cells m is

  pub no_fault : (f : CellFault) → IsCellFault S f → f ≡ OutOfMemory
  no_fault (Borrowed slot) it = absurd (it.2 (simple.unborrowed.none it.0))
  no_fault (fault.Shared slot) it = absurd (by (map.get S.cells it.0) refl it.2)
    where
      by : (x : Option (Cell T)) → map.get S.cells it.0 ≡ x → IsSharing x → ⊥
      by None at is = is
      by (Some (Value c l)) at is = is
      by (Some (Ref m l)) at is = simple.plain.none it.0 m l at
      by (Some (Shared c l)) at is =
          let ref = named_by it.0 (sound.shared it.0 (ap is_shared at)) in simple.plain.none ref.0 it.0 ref.1 ref.2
  no_fault OutOfMemory it = refl
