-- What a call does to a state, and how the cells and owners of two states are alike.
pub mod Common
use Rattle.generational_core.specs.StepCalls.{is_hindered, is_ready, recorded_as}
use Rattle.std.specs.FinMap as map
use Rattle.std.specs.FinSet as set
unfoldable pub use Common.*

-- ==== a write that may be made fails only if the tickets are used up: it doesn't allocate

module _ {T : Type 0} where
  pub write_refused_by : (S R : State T) (b : GenerationalPointer) (l : Location) (e : StoreError)
      → can_write S b ≡ true → Meets S (Write b l) (Refused e) R → e ≡ NumbersExhausted
  unfolding may_lack
  write_refused_by S R b l e free m = grind arith

-- ==== cells when some go: what is left, what Refs name then, and that nothing borrowed goes

-- what is there
pub some_live : {A : Type 0} (o : Option A) → is_some o ≡ true → (x : A) × (o ≡ Some x)
some_live o h = grind arith

-- what passes a test that nothing passes is there
pub live_by : {A : Type 0} (p : Option A → Bool) → p None ≡ false → (o : Option A)
    → p o ≡ true → is_some o ≡ true
live_by p none o h = grind arith

-- what holds in both cases of a test
pub by_cond : {A : Type 0} (P : A → Type 0) (b : Bool) {x y : A}
    → (b ≡ true → P x) → (b ≡ false → P y) → P (cond b x y)
by_cond P b h k = grind arith

-- something under a test: it was passed
pub cond_gives : {A : Type 0} (b : Bool) (o : Option A) (x : A)
    → cond b o None ≡ Some x → (b ≡ true) × (o ≡ Some x)
cond_gives b o x h = grind arith

module _ {T : Type 0} where
  -- what a name has after names are removed, and after a sweep
  pub get-without : (cells : NameMap (Cell T)) (names : List Name) (n : Name)
      → map.get (take_away cells names) n
      ≡ cond (is_shared (map.get cells n) || not (among names n)) (map.get cells n) None
  unfolding take_away
  get-without cells names n = get-keep by_name cells _ n

  pub get-swept : (cells : NameMap (Cell T)) (n : Name) → map.get (sweep cells) n
      ≡ cond (not (is_shared (map.get cells n)) || is_named cells n) (map.get cells n) None
  unfolding sweep
  get-swept cells n = get-keep by_name cells _ n

  -- a name that is kept keeps its cell, and one that isn't was a Shared cell that nothing names
  pub swept_view : (cells : NameMap (Cell T)) (n : Name)
      → ((map.get (sweep cells) n ≡ map.get cells n)
      × ((is_shared (map.get cells n) ≡ false) ⊎ (is_named cells n ≡ true)))
      ⊎ ((map.get (sweep cells) n ≡ None)
      × (is_shared (map.get cells n) ≡ true) × (is_named cells n ≡ false))
  swept_view cells n = grind (arith, get-swept)

  -- what is removed wasn't Shared, and is among the names
  pub without_view : (cells : NameMap (Cell T)) (names : List Name) (n : Name)
      → (map.get (take_away cells names) n ≡ map.get cells n)
      ⊎ ((map.get (take_away cells names) n ≡ None) × (is_shared (map.get cells n) ≡ false)
      × (among names n ≡ true))
  unfolding take_away
  without_view cells names n = grind (arith, keep_view, by_name)

  -- ---- what Refs name

  -- Shared cells stay, and each Ref was there or names a Shared cell
  pub targets_still : (old new : NameMap (Cell T)) → HasTargets old
      → ((m : Name) → is_shared (map.get old m) ≡ true → is_shared (map.get new m) ≡ true)
      → ((n m : Name) (l : Location) → map.get new n ≡ Some (Ref m l)
      → (map.get old n ≡ Some (Ref m l)) ⊎ (is_shared (map.get new m) ≡ true)) → HasTargets new
  targets_still old new t stays was = grind arith

  -- a Ref isn't swept away, nor what it names
  pub swept_ref : (cells : NameMap (Cell T)) (n m : Name) (l : Location)
      → map.get cells n ≡ Some (Ref m l) → map.get (sweep cells) n ≡ Some (Ref m l)
  swept_ref cells n m l h = ⊎_elim (λ e. e.0 ∙ h) (λ e. cc) (swept_view cells n)

  -- so what is left is linked
  pub swept_linked : (cells : NameMap (Cell T)) → HasTargets cells → IsLinked (sweep cells)
  swept_linked cells t = grind (arith, named_from, swept_view, named_gives)

  -- after names end, each Ref still names a Shared cell
  pub closed_linked : (cells : NameMap (Cell T)) (names : List Name)
      → HasTargets cells → IsLinked (cells_after cells names)
  closed_linked cells names t =
      swept_linked _ (targets_still cells (take_away cells names) t
      (grind (arith, without_view)) (grind (arith, without_view)))

  -- ---- what nothing hinders from ending isn't borrowed

  -- a cell is borrowed if a write of it fails
  abbrev pub IsBorrowed : Option (Cell T) → Type 0
  IsBorrowed cell = is_some (write_refusal (content_of cell)) ≡ true

  -- if nothing hinders the end of some names, nothing hinders the end of one of them
  none_hindered : (cells left : NameMap (Cell T)) (names : List Name)
      → first_hindrance cells left names ≡ None
      → (n : Name) → among names n ≡ true → hindrance_of cells left (map.get cells n) n ≡ None
  none_hindered cells left [] h n at = cc
  none_hindered cells left (m ∷ names) h n at = grind (arith, name_same, none_hindered cells left names)

  -- a cell of one of the names that goes unhindered isn't borrowed
  own_free : (cells left : NameMap (Cell T)) (n : Name) (cell : Option (Cell T))
      → map.get cells n ≡ cell → is_shared cell ≡ false
      → hindrance_of cells left cell n ≡ None → map.get left n ≡ None → IsBorrowed cell → ⊥
  own_free cells left n cell is plain h gone borrowed = grind arith

  -- when names end unhindered, each name keeps its cell, or loses one that isn't borrowed
  pub closed_view : (S : State T) (names : List Name) → hindrance_to S names ≡ None → (n : Name)
      → (map.get (cells_after S.cells names) n ≡ map.get S.cells n)
      ⊎ ((map.get (cells_after S.cells names) n ≡ None)
      × (IsSound S → IsBorrowed (map.get S.cells n) → ⊥))
  unfolding hindrance_to
  closed_view S names free n =
      let left = cells_after S.cells names in
      let rest = take_away S.cells names in
      let none = none_hindered S.cells left names free in
      let own = own_free S.cells left n (map.get S.cells n) in
      let away = without_view S.cells names in
      grind (arith, away, own, none, named_gives S.cells n, named_from rest n, swept_view rest n)

  -- the same when a Ref turns to another cell, except for the Ref
  pub turned_view : (S : State T) (a old new : Name) (l : Location) → map.get
      S.cells a ≡ Some (Ref old l) → let left = sweep (map.insert S.cells a (Ref new l)) in
      hindrance_at S.cells left old ≡ None → (n : Name) → (map.get left n ≡ map.get S.cells n)
      ⊎ (((map.get S.cells n ≡ Some (Ref old l)) × (map.get left n ≡ Some (Ref new l)))
      ⊎ ((map.get left n ≡ None) × (IsSound S → IsBorrowed (map.get S.cells n) → ⊥)))
  turned_view S a old new l at_a free n =
      let one = map.insert S.cells a (Ref new l) in
      let other = get-insert_apart by_name S.cells a (Ref new l) in
      by_keys by_name n a
      (λ is. inr (inl (cc, swept_ref one n new l (grind (arith, get-insert_here, by_name)))))
      (λ ne. grind (arith, other, named_gives S.cells n, named_from one n, swept_view one n))

  -- so Refs name Shared cells still
  pub turned_linked : (cells : NameMap (Cell T)) (a old new : Name) (l : Location)
      → HasTargets cells → map.get cells a ≡ Some (Ref old l) → is_shared (map.get cells new) ≡ true
      → IsLinked (sweep (map.insert cells a (Ref new l)))
  turned_linked cells a old new l t at_a shared =
      swept_linked _ (targets_still cells (map.insert cells a (Ref new l)) t
      (grind (arith, get-insert_apart, by_name)) (grind (arith, get-insert_here, get-insert_apart, by_name)))

-- ==== cells that are linked stay so: when cells come, and when contents change

module _ {T : Type 0} where
  -- the cells of a sound state are linked
  pub sound_linked : (S : State T) → IsSound S → IsLinked S.cells
  sound_linked S s = grind (arith, named_gives)

  -- and those that are left of linked ones when names end
  pub closing_linked : (cells : NameMap (Cell T)) (names : List Name)
      → IsLinked cells → IsLinked (cells_after cells names)
  closing_linked cells names linked = closed_linked cells names linked.targets

  -- a cell that isn't Shared, with a Shared cell to name if it is a Ref
  pub born_linked : (cells : NameMap (Cell T)) (n : Name) (c : Cell T)
      → IsLinked cells → map.get cells n ≡ None → is_shared (Some c) ≡ false
      → ((m : Name) (l : Location) → Some c ≡ Some (Ref m l) → is_shared (map.get cells m) ≡ true)
      → IsLinked (map.insert cells n c)
  born_linked cells n c linked none plain leads =
      let other = get-insert_apart by_name cells n c in
      let here = get-insert_here by_name cells n c in
      record {
        targets = λ k m l h. grind (arith, h, other k, other m, here, linked.targets k m l, leads m l);
        named = λ m h. let it = linked.named m (grind (arith, h, other m, here)) in
            (it.0, it.1, grind (arith, it, other it.0));
      }

  -- a Shared cell and a Ref to it
  pub pair_linked : (cells : NameMap (Cell T)) (m n : Name) (c : Content T) (l j : Location)
      → IsLinked cells → m ≢ n → map.get cells m ≡ None → map.get cells n ≡ None
      → IsLinked (map.insert (map.insert cells m (Shared c l)) n (Ref m j))
  pair_linked cells m n c l j linked apart none_first none_second =
      let one = map.insert cells m (Shared c l) in
      let first = get-insert_apart by_name cells m (Shared c l) in
      let here = get-insert_here by_name cells m (Shared c l) in
      let second = get-insert_apart by_name one n (Ref m j) in
      let there = get-insert_here by_name one n (Ref m j) in
      record {
        targets = λ k q i h. let target = linked.targets k q i in
            grind (arith, h, first k, first q, second k, second q, here, there, target);
        named = λ q h. by_keys by_name q m (λ is. (n, j, cc there))
            (λ ne. let it = linked.named q (grind (arith, h, ne, first q, second q, there)) in
            (it.0, it.1, grind (arith, it, first it.0, second it.0)));
      }

  -- another content leaves Refs and Shared cells
  pub refilled_shared : (c : Content T) (x : Cell T) → is_shared (Some (refill c x)) ≡ is_shared (Some x)
  refilled_shared c x = grind arith

  -- so cells stay linked when a content changes
  pub refilled_linked : (cells : NameMap (Cell T)) (n : Name) (c : Content T)
      → IsLinked cells → IsLinked (change cells n (refill c))
  refilled_linked cells n c linked = grind (arith, changed_view, by_name)

-- ==== what a call does to a state: one change of its cells, another table of owners and maybe a
-- ticket, and what its answer says of that

-- the name behind another was never issued, and isn't the other
pub second_fresh : (given : Names) (m n : Name) → set.contains (set.insert given m) n ≡ false
    → (set.contains given n ≡ false) × (m ≢ n)
second_fresh given m n h = grind (arith, contains-insert_name, name_here)

-- the readers except for those with a ticket
abbrev pub without : ℕ → List Borrow → List Borrow
without t readers = filter (λ r. not (nat_eq r.ticket t)) readers

-- How a content is filled again: a reader comes, a writer comes, a reader goes, a writer gives the value
-- back, a value is set.
pub data Filling (T : Type 0) : Type 0 where
  Reader : (value : T) (readers : List Borrow) (at : Location) → Filling T
  Writer : (value : T) (at : Location) → Filling T
  Leave : (value : T) (readers : List Borrow) (guard : Guard) → Filling T
  Return : (writer : Borrow) (guard : Guard) (value : T) → Filling T
  Replace : (old value : T) → Filling T

-- A change of cells: none; a new Value or Ref; a new Shared cell and a Ref to it; another content;
-- names end; a Ref turns to another cell.
pub data Change (T : Type 0) : Type 0 where
  Stay : Change T
  Birth : (cell : Cell T) → Change T
  Pair : (value : T) (created : Location) → Change T
  Fill : (cell : Name) (filling : Filling T) → Change T
  Close : (names : List Name) → Change T
  Turn : (ref old new : Name) (created : Location) → Change T

module _ {T : Type 0} where
  -- the names that a making takes were never issued, and are two
  abbrev pub AreFresh : State T → Action T → NewNames → Type 0
  AreFresh S (Make o v l) f = set.contains S.given f.first ≡ false
  AreFresh S (MakeShared o v l) f = (set.contains S.given f.first ≡ false)
      × (set.contains S.given f.second ≡ false) × (f.first ≢ f.second)
  AreFresh S (Refer o b) f = set.contains S.given f.first ≡ false
  AreFresh S _ f = Unit {0}

  -- new names were never issued
  pub new_fresh : (S : State T) (call : Action T) (f : NewNames) → AreNew S call f → AreFresh S call f
  new_fresh S call f new = grind (arith, second_fresh)

  -- whether a call may make a cell
  abbrev pub is_making : Action T → Bool
  is_making (Make o v l) = true
  is_making (MakeShared o v l) = true
  is_making (Refer o b) = true
  is_making _ = false

  -- ---- the changes of cells

  -- the content before it, and after it
  abbrev pub old_content : Filling T → Content T
  old_content (Reader v readers l) = Here v readers
  old_content (Writer v l) = Here v []
  old_content (Leave v readers g) = Here v readers
  old_content (Return w g v) = Lent w
  old_content (Replace old v) = Here old []

  abbrev pub new_content : State T → Filling T → Content T
  new_content S (Reader v readers l) = Here v (readers ++ next_borrow S l ∷ [])
  new_content S (Writer v l) = Lent (next_borrow S l)
  new_content S (Leave v readers g) = Here v (without g.ticket readers)
  new_content S (Return w g v) = Here v []
  new_content S (Replace old v) = Here v []

  -- what is known when a call fills a content, and which ticket is next then
  abbrev pub IsFilling : State T → Action T → ℕ → Name → Filling T → Type 0
  IsFilling S call next n (Reader v readers l) = (next ≡ S.next + 1) × Borrows S call n
  IsFilling S call next n (Writer v l) = (next ≡ S.next + 1) × Lends S call n × Borrows S call n
  IsFilling S call next n (Leave v readers g) = (call ≡ ReleaseReader g) × (g.cell ≡ n)
  IsFilling S call next n (Return w g v) =
      (call ≡ ReleaseWriter g v) × (nat_eq w.ticket g.ticket ≡ true) × Lends S call n
  IsFilling S call next n (Replace old v) = Sets S call n

  -- the state after it, with names for what is made
  abbrev pub after : State T → NewNames → Change T → State T
  after S f Stay = S
  after S f (Birth c) = add_cell S f.first c
  after S f (Pair v l) =
      add_cell (add_cell S f.first (Shared (Here v []) l)) f.second (Ref f.first l)
  after S f (Fill n k) = fill S n (new_content S k)
  after S f (Close names) = close S names
  after S f (Turn a old new l) = record S { cells = sweep (map.insert S.cells a (Ref new l)) }

  -- a new cell has no borrows, and is no Shared one; as a Ref it names a Shared cell
  abbrev pub IsBirth : State T → Cell T → Type 0
  IsBirth S c = (is_shared (Some c) ≡ false) × (tickets_of (content_of (Some c)) ≡ [])
      × ((m : Name) (l : Location) → Some c ≡ Some (Ref m l) → is_shared (map.get S.cells m) ≡ true)

  -- what is known when a call makes a change
  abbrev pub IsLawful : State T → Action T → NewNames → ℕ → Change T → Type 0
  IsLawful S call f next Stay = Unit {0}
  IsLawful S call f next (Birth c) = (is_making call ≡ true) × IsBirth S c
      × (AreNew S call f → IsNew S f.first)
  IsLawful S call f next (Pair v l) = (is_making call ≡ true) × (AreNew S call f
      → IsNew S f.first × IsNew (add_cell S f.first (Shared (Here v []) l)) f.second)
  IsLawful S call f next (Fill n k) =
      (content_at S n ≡ Some (old_content k)) × IsFilling S call next n k
  IsLawful S call f next (Close names) = (hindrance_to S names ≡ None) × (names ≡ ending S call)
  IsLawful S call f next (Turn a old new l) =
      (map.get S.cells a ≡ Some (Ref old l)) × (is_shared (map.get S.cells new) ≡ true)
      × (hindrance_at S.cells (sweep (map.insert S.cells a (Ref new l))) old ≡ None) × Turns call a

  -- ---- what an answer says

  -- a box of the store, at a name that was never issued before, and is no Shared cell's
  pub record IsNewBox (S R : State T) (b : GenerationalPointer) : Type 0 where
    pub number : b.id.store ≡ S.number
    pub ungiven : set.contains S.given (name_of b) ≡ false
    pub boxed : IsBoxed R (name_of b)

  -- a ticket, which is used up from now on
  pub record IsNewTicket (S R : State T) (t : ℕ) : Type 0 where
    pub is : t ≡ S.next
    pub next : R.next ≡ S.next + 1

  -- what an answer says of the states before and after it
  abbrev pub Says : State T → Answer T → State T → Type 0
  Says S (Made b) R = IsNewBox S R b
  Says S (Reads g) R = IsNewTicket S R g.ticket × (knows_reader R g ≡ true)
  Says S (Writes g v) R = IsNewTicket S R g.ticket × (knows_writer R g ≡ true)
  Says S (Owned o) R = R.next ≡ S.next + 1
  Says S _ R = Unit {0}

  -- the store's error that an answer has
  abbrev pub wants : Answer T → Option StoreError
  wants (Refused e) = want e
  wants _ = None

  -- what a call answers is true
  pub record IsSaid (S : State T) (out : Outcome T) : Type 0 where
    pub so : Says S out.0 out.1
    -- the machine itself wants neither memory nor tickets
    pub able : wants out.0 ≡ None

  -- ---- what a call does

  -- records of owners have names of boxes, and keys that were issued
  abbrev pub AreRecords : State T → ℕ → Owners → Type 0
  AreRecords S next owners = (k : ℕ) (h : Ownership)
      → map.get owners k ≡ Some h → AllByRecursion (IsBoxed S) h.names × (k < next)

  -- a call leads to an outcome by one change of cells
  pub record Leads (S : State T) (call : Action T) (f : NewNames) (out : Outcome T) : Type 0 where
    pub change : Change T
    pub owners : Owners
    pub next : ℕ
    pub is : out.1 ≡ record (after S f change) { owners = owners; next = next }
    pub up : S.next ≤ next
    pub lawful : IsLawful S call f next change
    pub recorded : AreRecords (after S f change) next (after S f change).owners
        → AreRecords (after S f change) next owners

  -- the record of an owner that the store knows
  pub held_record : (S : State T) (o : OwnerName) (h : Ownership)
      → ownership S o ≡ Some h → map.get S.owners o.key ≡ Some h
  held_record S o h is = (cond_gives _ _ h is).1

  boxed_push : (S : State T) (names : List Name) (n : Name) → AllByRecursion (IsBoxed S) names
      → IsBoxed S n → AllByRecursion (IsBoxed S) (names ++ n ∷ [])
  boxed_push S [] n h b = (b, tt)
  boxed_push S (m ∷ names) n h b = (h.0, boxed_push S names n h.1 b)

  -- another name in a list, a record inserted, and a record removed
  module _ (S : State T) (next : ℕ) (owners : Owners) (all : AreRecords S next owners) (key : ℕ) where
    records_listed : (n : Name) → IsBoxed S n → AreRecords S next (change owners key (one_listed n))
    records_listed n boxed = grind (arith, boxed_push, changed_view, by_number)

    records_put : (h : Ownership) → AllByRecursion (IsBoxed S) h.names → key < next
        → AreRecords S next (map.insert owners key h)
    records_put h boxed below = grind (arith, by_number, get-insert_here, get-insert_apart)

    records_left : AreRecords S next (map.remove owners key)
    records_left = grind (arith, by_number, get-remove_here, get-remove_apart)

  -- the name of a new cell that is no Shared one
  boxed_here : (S : State T) (n : Name) (c : Cell T)
      → is_shared (Some c) ≡ false → IsBoxed (add_cell S n c) n
  boxed_here S n c plain = grind (arith, get-insert_here, by_name, contains-insert_here)

  -- a cell with a content has the one that is filled in
  pub refilled_content : (c old : Content T) (x : Option (Cell T))
      → content_of x ≡ Some old → content_of (option_map (refill c) x) ≡ Some c
  refilled_content c old x h = grind arith

  pub filled_content : (S : State T) (m : Name) (c old : Content T)
      → content_at S m ≡ Some old → content_at (fill S m c) m ≡ Some c
  filled_content S m c old had = grind (arith, get-changed_name, name_here)

  module _ {S : State T} {f : NewNames} where
    -- an outcome with a change of cells, a table of owners and a next ticket
    leads : {call : Action T} {answer : Answer T} (c : Change T) (owners : Owners) (next : ℕ)
        → S.next ≤ next → IsLawful S call f next c
        → (AreRecords (after S f c) next (after S f c).owners → AreRecords (after S f c) next owners)
        → Leads S call f (answer, record (after S f c) { owners = owners; next = next })
    leads c o n u l r = record
        { change = c; owners = o; next = n; is = refl; up = u; lawful = l; recorded = r }

    -- nothing changes
    still : {call : Action T} {answer : Answer T} → Leads S call f (answer, S)
    still = leads Stay _ S.next (omega arith) tt (λ h. h)

    -- a content is filled again
    fills : {call : Action T} {answer : Answer T} (n : Name) (k : Filling T) (next : ℕ) → S.next ≤ next
        → content_at S n ≡ Some (old_content k) → IsFilling S call next n k
        → Leads S call f (answer, record (fill S n (new_content S k)) { next = next })
    fills n k next up had law = leads (Fill n k) _ next up (had, law) (λ h. h)

    -- an error if there is one, else one of two outcomes
    leads_unless : {call : Action T} (t : Option BorrowRefusal) {x : Outcome T}
        → (t ≡ None → Leads S call f x) → Leads S call f (unless t S x)
    leads_unless t h = grind (arith, still)

    leads_if : {call : Action T} (b : Bool) {x y : Outcome T}
        → (b ≡ true → Leads S call f x) → Leads S call f y → Leads S call f (cond b x y)
    leads_if b h k = grind arith

    -- ---- owners

    leads_cloned : (o : OwnerName) (h : Option Ownership) → ownership S o ≡ h
        → Leads S (CloneOwner o) f (clone_owner S o h)
    leads_cloned o None is = still
    leads_cloned o (Some h) is = leads Stay _ (S.next + 1) (omega arith) tt
        (λ all. grind (arith, all o.key h (held_record S o h is), records_put S _ S.owners all))

    leads_released : (o : OwnerName) (h : Option Ownership) → ownership S o ≡ h
        → Leads S (ReleaseOwner o) f (release_owner S o h)
    leads_released o None is = still
    leads_released o (Some h) is = leads_if (nat_lt 1 h.count)
        (λ _. leads Stay _ S.next (omega arith) tt
        (λ all. grind (arith, all o.key h (held_record S o h is), records_put S _ S.owners all)))
        (leads_unless (hindrance_to S h.names) (λ free. leads
        (Close h.names) _ S.next (omega arith) (free, ap names_in (sym (held_record S o h is)))
        (λ all. records_left (close S h.names) _ S.owners all o.key)))

    -- ---- makings

    -- cells are made, and their box is listed
    leads_made : {call : Action T} (c : Change T) (o : Option OwnerName) (b : GenerationalPointer)
        → S.next ≤ (after S f c).next → IsLawful S call f (after S f c).next c
        → IsBoxed (after S f c) (name_of b)
        → Leads S call f (Made b, add_to_list (after S f c) o (name_of b))
    leads_made c None b up lawful boxed = leads c _ (after S f c).next up lawful (λ h. h)
    leads_made c (Some o) b up lawful boxed = let Q = after S f c in leads c _ Q.next up lawful
        (λ all. records_listed Q _ Q.owners all o.key (name_of b) boxed)

    leads_referred : (o : Option OwnerName) (b : GenerationalPointer) (to : Option Name)
        (target : Option (Cell T)) → cell_at S to ≡ target
        → Leads S (Refer o b) f (refer S o b to target f.first)
    leads_referred o b (Some m) (Some (Shared c l)) is = leads_made (Birth (Ref m l)) o _ (omega arith)
        (refl, (refl, refl, λ k j e. cc), λ new. new) (boxed_here S f.first (Ref m l) refl)
    leads_referred o b to target is = still

    -- ---- borrows

    leads_read : (b : GenerationalPointer) (l : Location) (m : Option Name) (c : Option (Content T))
        → content_of (cell_at S m) ≡ c → reach S b ≡ m → Leads S (Read b l) f (read_at S l m c)
    leads_read b l (Some m) (Some (Here v readers)) had to =
        fills m (Reader v readers l) (S.next + 1) (omega arith) had (refl, to)
    leads_read b l m c had to = still

    leads_write : (b : GenerationalPointer) (l : Location) (m : Option Name) (c : Option (Content T))
        → content_of (cell_at S m) ≡ c
        → refusal_at m b.created_at (λ n. write_refusal (content_at S n)) ≡ None → reach S b ≡ m
        → Leads S (Write b l) f (write_at S l m c)
    leads_write b l (Some m) (Some (Here v [])) had free to =
        fills m (Writer v l) (S.next + 1) (omega arith) had (refl, to, to)
    leads_write b l (Some m) (Some (Here v (r ∷ readers))) had free to = cc (ap write_refusal had)
    leads_write b l m c had free to = still

    leads_left : (g : Guard) (c : Option (Content T)) → content_at S g.cell ≡ c
        → Leads S (ReleaseReader g) f (Flag true, remove_reader S g.cell g.ticket c)
    leads_left g (Some (Here v readers)) had =
        fills g.cell (Leave v readers g) S.next (omega arith) had (refl, refl)
    leads_left g c had = still

    leads_returned : (g : Guard) (v : T) (c : Option (Content T)) → content_at S g.cell ≡ c
        → has_writer c g.ticket ≡ true → Leads S (ReleaseWriter g v) f (Done, fill S g.cell (Here v []))
    leads_returned g v (Some (Lent w)) had known =
        fills g.cell (Return w g v) S.next (omega arith) had (refl, known, refl)
    leads_returned g v c had known = cc

    leads_set : (b : GenerationalPointer) (v : T) (m : Option Name) (c : Option (Content T))
        → content_of (cell_at S m) ≡ c → reach S b ≡ m → Leads S (SetValue b v) f (set_at S b v m c)
    leads_set b v (Some m) (Some (Here old [])) had is =
        fills m (Replace old v) S.next (omega arith) had is
    leads_set b v None c had is = still
    leads_set b v m c had is = still

    -- ---- references

    leads_pointed : (a b : GenerationalPointer) (own : Bool) (cell : Option (Cell T)) (to : Option Name)
        (target : Option (Cell T)) → map.get S.cells (name_of a) ≡ cell → cell_at S to ≡ target
        → Leads S (Point a b) f (point S a b (cond own cell None) to target)
    leads_pointed a b true (Some (Ref old l)) (Some new) (Some (Shared c k)) at_a at_b =
        leads_if (is_name old new) (λ _. still) (leads_unless _
        (λ free. leads (Turn (name_of a) old new l) _ S.next (omega arith)
        (at_a, ap is_shared at_b, free, refl) (λ h. h)))
    leads_pointed a b _ _ _ _ at_a at_b = still

  ruleset owning = (leads_cloned, leads_released)

  ruleset borrowing = (leads_read, leads_write, leads_left, leads_set)

  -- what each call leads to
  pub act_leads : (S : State T) (call : Action T) (f : NewNames) → Leads S call f (act S call f)
  unfolding refusal_to_write
  act_leads S (Make o v l) f = leads_if (is_known S o)
      (λ _. leads_made (Birth (Value (Here v []) l)) o _ (omega arith)
      (refl, (refl, refl, λ m k e. cc), λ new. new) (boxed_here S f.first _ refl)) still
  act_leads S (MakeShared o v l) f = leads_if (is_known S o)
      (λ _. leads_made (Pair v l) o _ (omega arith) (refl, λ new. new)
      (boxed_here (add_cell S f.first (Shared (Here v []) l)) f.second (Ref f.first l) refl)) still
  act_leads S NewOwner f = leads Stay _ (S.next + 1) (omega arith) tt
      (λ all. records_put S _ S.owners all S.next _ tt (omega arith))
  act_leads S (ReleaseWriter g v) f = leads_if (knows_writer S g)
      (λ known. leads_returned g v _ refl (and_parts _ _ known).1) still
  act_leads S (End b) f = leads_unless (hindrance_to S (own_name S b))
      (λ free. leads (Close (own_name S b)) _ S.next (omega arith) (free, refl) (λ h. h))
  act_leads S call f =
      search (leads_if, leads_unless, leads_referred, leads_pointed, owning, borrowing, still)

  -- what each call answers is true
  pub act_says : (S : State T) (call : Action T) (f : NewNames)
      → AreFresh S call f → IsSaid S (act S call f)
  act_says S (Read b l) f new = grind (arith, get-changed_name, name_here, list_any-append)
  act_says S (Write b l) f new = grind (arith, get-changed_name, name_here)
  act_says S call f new = grind (arith, get-insert_here, by_name, contains-insert_here)

-- ==== what the release of an owner value leaves, and when a recorded call is ready

module _ {T : Type 0} where
  -- ---- what is left of the cells when names end

  module _ (cells : NameMap (Cell T)) (names : List Name) (n : Name) where
    -- a Value or a Ref goes exactly if the names hold it
    module _ (box : is_shared (map.get cells n) ≡ false) where
      pub box_ends : among names n ≡ true → map.get (cells_after cells names) n ≡ None
      box_ends there = rw (get-swept, get-without, box, there)

      pub box_stays : among names n ≡ false → map.get (cells_after cells names) n ≡ map.get cells n
      box_stays apart = rw (get-swept, get-without, box, apart, box)

    -- a Shared cell goes exactly if no Ref that is left names it
    module _ (shared : is_shared (map.get cells n) ≡ true) where
      pub shared_ends : (IsNamed (cells_after cells names) n → ⊥)
          → map.get (cells_after cells names) n ≡ None
      shared_ends nobody = grind (arith, named_gives, get-swept, get-without)

      pub shared_stays : IsNamed (cells_after cells names) n
          → map.get (cells_after cells names) n ≡ map.get cells n
      shared_stays h = grind (arith, named_from, get-swept, get-without)

  -- what is in a list of names of boxes is one
  pub boxed_among : (S : State T) (names : List Name) (n : Name)
      → AllByRecursion (IsBoxed S) names → among names n ≡ true → IsBoxed S n
  boxed_among S [] n all there = cc
  boxed_among S (m ∷ names) n all there = grind (arith, name_same, boxed_among S names n all.1)

  pub listed_boxed : (S : State T) (o : OwnerName) (h : Ownership) (n : Name) → IsSound S
      → ownership S o ≡ Some h → among h.names n ≡ true → is_shared (map.get S.cells n) ≡ false
  listed_boxed S o h n s is there = grind (arith, boxed_among)

  module _ {S R : State T} {o : OwnerName} {h : Ownership} (r : IsReleased S o h R) where
    -- with the last owner value the list is closed, and the record goes
    last_release : h.count ≤ 1 → R ≡ record (close S h.names) { owners = map.remove S.owners o.key }
    last_release last = grind arith

    -- else the record has one owner value less
    earlier_release : 1 < h.count → R ≡ set_ownership S o.key (one_less h)
    earlier_release more = grind arith

    pub last_cells : h.count ≤ 1 → R.cells ≡ cells_after S.cells h.names
    last_cells last = cc (last_release last)

    pub earlier_cells : 1 < h.count → R.cells ≡ S.cells
    earlier_cells more = cc (earlier_release more)

    -- the record afterwards, and the others
    pub last_record : h.count ≤ 1 → map.get R.owners o.key ≡ None
    last_record last = cc (last_release last, get-remove_here by_number S.owners o.key)

    pub earlier_record : 1 < h.count → map.get R.owners o.key ≡ Some (one_less h)
    earlier_record more = grind (arith, earlier_release, get-insert_here, by_number)

    pub other_records : (k : ℕ) → k ≢ o.key → map.get R.owners k ≡ map.get S.owners k
    other_records k apart = ⊎_elim
        (λ more. grind (arith, earlier_release, get-insert_apart, by_number))
        (λ last. grind (arith, last_release, get-remove_apart, by_number)) (cases_lt 1 h.count)

    -- nothing but cells and records changes
    pub rest_stays : R ≡ record S { cells = R.cells; owners = R.owners }
    rest_stays = grind arith

  pub refused_owner_release : (S R : State T) (o : OwnerName) (answer : Answer T)
      → Meets S (Action.ReleaseOwner o) answer R → answer ≢ Done → R ≡ S
  refused_owner_release S R o answer m ne = grind arith

  pub leak_changes_nothing : (S R : State T) (o : OwnerName) (answer : Answer T)
      → Meets S (Action.LeakOwner o) answer R → R ≡ S
  leak_changes_nothing S R o answer m = grind arith

  -- of a call and the call as it is recorded
  pub ready_told : (S : State T) (call : Action T) (step : StepCall) (new : NewNames)
      → recorded_as call ≡ Some step → is_ready S step ≡ not (is_hindered call (act S call new).0)
  ready_told S call step new e = grind arith

  -- a call that is ready doesn't fail because of a borrow
  pub ready_free : (S R : State T) (call : Action T) (step : StepCall) (answer : Answer T)
      → recorded_as call ≡ Some step → is_ready S step ≡ true → Meets S call answer R
      → is_hindered call answer ≡ false
  ready_free S R call step answer is ready m = grind (arith, ready_told S call step)
