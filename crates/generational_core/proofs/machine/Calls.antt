-- What the answer of each call says.
pub mod Steps
use Rattle.generational_core.specs.Leaving.{GivesOtherOwner, LeavesGuard, LeavesOwner, refuses}
use Rattle.std.specs.Prelude.{OnErr}
use Rattle.std.specs.FinMap as map
use Rattle.generational_errors.specs.declared.error.Refused as error
use Rattle.std.specs.FinSet as set
use Rattle.generational_errors.specs.declared.error.Refused.TheVariants as refused
unfoldable pub use Steps.*

-- ==== what the answer of each call says of boxes, guards and owners

module _ {T : Type 0} where
  -- ---- what answers say

  -- the name is at the end of the owner's list
  abbrev pub Lists : State T → Option OwnerName → Name → State T → Type 0
  Lists S o n R = (a : OwnerName) (h : Ownership)
      → o ≡ Some a → ownership S a ≡ Some h → ownership R a ≡ Some (one_listed n h)

  -- what a call's answer says of the states before and after it
  abbrev pub Tells : State T → Action T → Answer T → State T → Type 0
  Tells S (Make o v l) (Made b) R = (reach R b ≡ Some (name_of b))
      × (value_in R b ≡ Some v) × Lists S o (name_of b) R × (can_write R b ≡ true)
  Tells S (MakeShared o v l) (Made b) R =
      (value_in R b ≡ Some v) × Lists S o (name_of b) R × (can_write R b ≡ true)
  Tells S (Refer o c) (Made b) R = (reach R b ≡ reach S c) × (IsSound S
      → value_in R b ≡ value_in S c) × Lists S o (name_of b) R × (is_some (reach S c) ≡ true)
  Tells S NewOwner (Owned o) R = ownership R o ≡ Some (record { names = []; count = 1 })
  Tells S (Read b l) (Reads g) R = (reach S b ≡ Some g.cell) × (value_at R g.cell ≡ value_in S b)
  Tells S (Write b l) (Writes g v) R = (reach S b ≡ Some g.cell)
      × (value_in S b ≡ Some v) × ((c : GenerationalPointer) → reach R c ≡ reach S c)
  Tells S (ReleaseWriter g v) Done R =
      (b : GenerationalPointer) → reach S b ≡ Some g.cell → value_in R b ≡ Some v
  Tells S (SetValue b v) (Old old) R =
      (value_in S b ≡ Some old) × ((c : GenerationalPointer) → reach R c ≡ reach S c)
      × ((c : GenerationalPointer) → reach S c ≡ reach S b → value_in R c ≡ Some v)
  Tells S (End b) Done R = reach R b ≡ None
  Tells S (Point a b) Done R = reach R a ≡ reach S b
  Tells S _ _ R = Unit {0}

  abbrev TellsOf : State T → Action T → Outcome T → Type 0
  TellsOf S call out = Tells S call out.0 out.1

  -- boxes of one id reach the same
  same_reach : (S : State T) (a b : GenerationalPointer) → a.id ≡ b.id → reach S a ≡ reach S b
  unfolding reach
  same_reach S a b e = rw e

  -- ---- makings

  -- an owner's list changes nothing that a box sees
  pub listed : (S : State T) (o : Option OwnerName) (n : Name) (b : GenerationalPointer)
      → (reach (add_to_list S o n) b ≡ reach S b)
      × (value_in (add_to_list S o n) b ≡ value_in S b)
      × (can_write (add_to_list S o n) b ≡ can_write S b)
  unfolding value_in reach refusal_to_write
  listed S o n b = grind arith

  in_list : (S : State T) (o : Option OwnerName) (n : Name) → Lists S o n (add_to_list S o n)
  in_list S o n a h is held =
      let there = cond_gives (nat_eq a.store S.number) (map.get S.owners a.key) h held in
      grind (arith, there, get-changed_here by_number S.owners a.key (one_listed n) h)

  -- the box of a cell that is added leads where the cell does
  added_reach : (S : State T) (n : Name) (c : Cell T) (l : Location)
      → reach (add_cell S n c) (box_of S.number n l) ≡ leads_to (Some c) n
  unfolding reach
  added_reach S n c l = rw (nat_eq_equiv.refl S.number, get-insert_here by_name S.cells n c)

  made_told : (S : State T) (o : Option OwnerName) (v : T) (l : Location) (n : Name)
      → TellsOf S (Make o v l) (make S o n (Value (Here v []) l) l)
  unfolding value_in refusal_to_write
  made_told S o v l n =
      let Q = add_cell S n (Value (Here v []) l) in
      let to = added_reach S n (Value (Here v []) l) l in
      let list = listed Q o n (box_of S.number n l) in
      grind (arith, to, list, in_list Q o n, get-insert_here, by_name)

  shared_told : (S : State T) (o : Option OwnerName) (v : T) (l : Location) (m n : Name) → m ≢ n
      → TellsOf S (MakeShared o v l) (make (add_cell S m (Shared (Here v []) l)) o n (Ref m l) l)
  unfolding value_in refusal_to_write
  shared_told S o v l m n apart =
      let one = add_cell S m (Shared (Here v []) l) in
      let Q = add_cell one n (Ref m l) in
      let to = added_reach one n (Ref m l) l in
      let list = listed Q o n (box_of S.number n l) in
      grind (arith, to, list, in_list Q o n, get-insert_apart, get-insert_here, by_name)

  -- ---- borrows

  -- another content at a name changes nothing that boxes reach
  pub filled_reach : (S : State T) (n : Name) (k : Content T) (b : GenerationalPointer)
      → reach (fill S n k) b ≡ reach S b
  unfolding reach
  filled_reach S n k b = grind (arith, changed_view, by_name)

  write_told : (S : State T) (b : GenerationalPointer) (l : Location) (m : Option Name)
      (c : Option (Content T)) → reach S b ≡ m → content_of (cell_at S m) ≡ c
      → TellsOf S (Write b l) (write_at S l m c)
  unfolding reach
  write_told S b l (Some m) (Some (Here v rs)) to had =
      (to, cc (value_in_reached S b m to), filled_reach S m (Lent (next_borrow S l)))
  write_told S b l m c to had = tt

  written_told : (S : State T) (g : Guard) (v : T) (c : Option (Content T)) → content_at S g.cell ≡ c
      → has_writer c g.ticket ≡ true → TellsOf S (ReleaseWriter g v) (Done, fill S g.cell (Here v []))
  unfolding value_in
  written_told S g v c had known =
      grind (arith, filled_reach S g.cell (Here v []), filled_content S g.cell (Here v []))

  set_told : (S : State T) (b : GenerationalPointer) (v : T) (m : Option Name) (c : Option (Content T))
      → reach S b ≡ m → content_of (cell_at S m) ≡ c → TellsOf S (SetValue b v) (set_at S b v m c)
  unfolding value_in
  set_told S b v (Some m) c to had =
      grind (arith, filled_reach S m (Here v []), filled_content S m (Here v []))
  set_told S b v None c to had = tt

  -- ---- ends, and references that turn

  pub ended_leads : (cells : NameMap (Cell T)) (names : List Name) (n : Name)
      → among names n ≡ true → leads_to (map.get (cells_after cells names) n) n ≡ None
  ended_leads cells names n there = grind (arith, get-without, swept_view)

  ended_told : (S : State T) (b : GenerationalPointer) → TellsOf S (End b) (Done, close S (own_name S b))
  unfolding reach
  ended_told S b = grind (arith, ended_leads, name_here)

  turned_told : (S : State T) (a b : GenerationalPointer) (own : Bool)
      (cell : Option (Cell T)) (to : Option Name) (target : Option (Cell T))
      → nat_eq a.id.store S.number ≡ own → map.get S.cells (name_of a) ≡ cell → reach S b ≡ to
      → TellsOf S (Point a b) (point S a b (cond own cell None) to target)
  unfolding reach
  turned_told S a b true (Some (Ref old l)) (Some new) (Some (Shared c k)) own at to =
      let there = swept_ref (map.insert S.cells (name_of a) (Ref new l)) (name_of a) new l in
      grind (arith, there, get-insert_here, by_name, name_same old new)
  turned_told S a b _ _ _ _ own at to = tt

  -- ---- each call

  act_tells : (S : State T) (call : Action T) (f : NewNames)
      → AreFresh S call f → TellsOf S call (act S call f)
  unfolding value_in
  act_tells S (Make o v l) f new = grind (arith, made_told)
  act_tells S (MakeShared o v l) f new = grind (arith, shared_told)
  act_tells S (Refer o b) f new = grind (arith, listed, added_reach, in_list, get-insert_apart, by_name)
  act_tells S NewOwner f new = grind (arith, nat_eq_equiv, get-insert_here, by_number)
  act_tells S (Read b l) f new = grind (arith, get-changed_name, name_here)
  act_tells S (Write b l) f new = grind (arith, write_told)
  act_tells S (ReleaseWriter g v) f new = grind (arith, written_told S g v (content_at S g.cell) refl)
  act_tells S (SetValue b v) f new = set_told S b v (reach S b) _ refl refl
  act_tells S (End b) f new = grind (arith, ended_told)
  act_tells S (Point a b) f new = grind (arith, same_reach, same_ids, turned_told)
  act_tells S _ f new = tt

  pub meets_tells : (S R : State T) (call : Action T) (answer : Answer T)
      → Meets S call answer R → Tells S call answer R
  meets_tells S R call answer = meets_each S R call answer (TellsOf S call)
      (λ h. grind arith) (λ f new. act_tells S call f (new_fresh S call f new))

-- ==== what callers cite: what results say, and what calls leave unchanged. The arguments of each are
-- found from the clause of the call that it is about

-- a name is in the list that it is the last of
pub listed_last : (names : List Name) (n : Name) → among (names ++ n ∷ []) n ≡ true
listed_last [] n = ap (λ x. x || false) (name_here n)
listed_last (m ∷ names) n = or_right (is_name n m) _ (listed_last names n)

module _ {T : Type 0} where
  -- a box that sees a value reaches it
  pub seen_reached : (S : State T) (b : GenerationalPointer) (v : T)
      → value_in S b ≡ Some v → (m : Name) × (reach S b ≡ Some m)
  unfolding value_in
  seen_reached S b v seen = grind arith

  -- and one that reaches nothing sees nothing
  pub unseen : (S : State T) (b : GenerationalPointer) → reach S b ≡ None → value_in S b ≡ None
  unfolding value_in
  unseen S b e = ap (value_reached S) e

  module _ {S R : State T} where
    -- ---- makings

    -- a new box has no name of one that sees a value
    new_apart : (call : Action T) (b : GenerationalPointer) → IsSound S → Meets S call (Made b) R
        → (c : GenerationalPointer) (v : T) → value_in S c ≡ Some v → name_of b ≢ name_of c
    new_apart call b s m c v seen is =
        grind (arith, seen_reached S c v seen, reaches S c, made_new S R call b m)

    module _ (o : Option OwnerName) (v : T) (l : Location) where
      pub made : (r : Result (GenerationalBox T) (Refusal T))
          → Meets S (Make o v l) (box_answer r) R → IfOk r (λ b. value_in R (pointer_of b) ≡ Some v)
      made r m = grind (arith, meets_tells S R (Make o v l) (box_answer r) m)

      pub made_apart : (r : Result (GenerationalBox T) (Refusal T)) → IsSound S
          → Meets S (Make o v l) (box_answer r) R → IfOk r (λ b. (c : GenerationalPointer) (w : T)
          → value_in S c ≡ Some w → name_of (pointer_of b) ≢ name_of c)
      made_apart (Ok b) s m = new_apart _ _ s m
      made_apart (Err e) s m = tt

      pub made_free : (r : Result (GenerationalBox T) (Refusal T))
          → Meets S (Make o v l) (box_answer r) R → IfOk r (λ b. can_write R (pointer_of b) ≡ true)
      made_free r m = grind (arith, meets_tells S R (Make o v l) (box_answer r) m)

      pub made_shared : (r : Result (GenerationalBox T) (Refusal T))
          → Meets S (MakeShared o v l) (box_answer r) R → IfOk r (λ b. value_in R (pointer_of b) ≡ Some v)
      made_shared r m = grind (arith, meets_tells S R (MakeShared o v l) (box_answer r) m)

      pub made_shared_free : (r : Result (GenerationalBox T) (Refusal T))
          → Meets S (MakeShared o v l) (box_answer r) R → IfOk r (λ b. can_write R (pointer_of b) ≡ true)
      made_shared_free r m = grind (arith, meets_tells S R (MakeShared o v l) (box_answer r) m)

    module _ (o : Option OwnerName) (c : GenerationalPointer) where
      pub referred : (r : Result (GenerationalBox T) (error.Refused BorrowError)) → IsSound S
          → Meets S (Refer o c) (reference_box_answer r) R
          → IfOk r (λ b. value_in R (pointer_of b) ≡ value_in S c)
      referred r s m = grind (arith, meets_tells S R (Refer o c) (reference_box_answer r) m)

      pub referred_reach : (r : Result (GenerationalBox T) (error.Refused BorrowError))
          → Meets S (Refer o c) (reference_box_answer r) R
          → IfOk r (λ b. reach R (pointer_of b) ≡ reach S c)
      referred_reach r m = grind (arith, meets_tells S R (Refer o c) (reference_box_answer r) m)

      pub referred_apart : (r : Result (GenerationalBox T) (error.Refused BorrowError)) → IsSound S
          → Meets S (Refer o c) (reference_box_answer r) R
          → IfOk r (λ b. (d : GenerationalPointer) (w : T)
          → value_in S d ≡ Some w → name_of (pointer_of b) ≢ name_of d)
      referred_apart (Ok b) s m = new_apart _ _ s m
      referred_apart (Err e) s m = tt

      -- a reference and the box from which it was made reach the same
      pub referred_together : (r : Result (GenerationalBox T) (error.Refused BorrowError)) → IsSound S
          → Meets S (Refer o c) (reference_box_answer r) R
          → IfOk r (λ b. reach R (pointer_of b) ≡ reach R c)
      referred_together (Ok b) s m =
          let told = meets_tells S R (Refer o c) (Made (pointer_of b)) m in
          let to = some_live (reach S c) told.3 in
          cc (told.0, to.1, reach_stays S R (Refer o c) _ c to.0 s m tt to.1)
      referred_together (Err e) s m = tt

    -- ---- borrows

    pub opens : (b : GenerationalPointer) (l : Location) (r : Result Guard (error.Refused BorrowError))
        → Meets S (Read b l) (read_answer r) R → IfOk r (λ g. value_behind R g ≡ value_in S b)
    opens b l r m =
        grind (arith, reads_known S R (Read b l), meets_tells S R (Read b l) (read_answer r) m)

    pub lends : (b : GenerationalPointer) (l : Location)
        (r : Result (WriteGuard T) (error.Refused BorrowMutError))
        → Meets S (Write b l) (write_answer r) R → IfOk r (λ w. value_in S b ≡ Some w.value)
    lends b l r m = grind (arith, meets_tells S R (Write b l) (write_answer r) m)

    pub lends_at : (b : GenerationalPointer)
        (l : Location) (r : Result (WriteGuard T) (error.Refused BorrowMutError))
        → Meets S (Write b l) (write_answer r) R → IfOk r
        (λ w. (reach S b ≡ Some w.guard.cell) × ((c : GenerationalPointer) → reach R c ≡ reach S c))
    lends_at b l r m = grind (arith, meets_tells S R (Write b l) (write_answer r) m)

    -- the same of a read and a write under their conditions
    pub opens_free : (b : GenerationalPointer) (l : Location) (r : Result Guard StoreError)
        → Meets S (Read b l) (free_read_answer r) R → IfOk r (λ g. value_behind R g ≡ value_in S b)
    opens_free b l (Ok g) m = opens b l (Ok g) m
    opens_free b l (Err e) m = tt

    pub lends_free : (b : GenerationalPointer) (l : Location) (r : Result (WriteGuard T) StoreError)
        → Meets S (Write b l) (free_write_answer r) R → IfOk r (λ w. (reach S b ≡ Some w.guard.cell)
        × (value_in S b ≡ Some w.value) × ((c : GenerationalPointer) → reach R c ≡ reach S c))
    lends_free b l r m = grind (arith, meets_tells S R (Write b l) (free_write_answer r) m)

    -- what a set gives back, and who sees the new value
    pub sets : (b : GenerationalPointer) (v old : T) → Meets S (SetValue b v) (Old old) R
        → (value_in S b ≡ Some old) × ((c : GenerationalPointer) → reach R c ≡ reach S c)
        × ((c : GenerationalPointer) → reach S c ≡ reach S b → value_in R c ≡ Some v)
    sets b v old m = meets_tells S R (SetValue b v) (Old old) m

    pub puts_back : (g : Guard) (v : T) {U : Type 0} (r : Result U T)
        → Meets S (ReleaseWriter g v) (back_answer r) R
        → OnOk r ((b : GenerationalPointer) → reach S b ≡ Some g.cell → value_in R b ≡ Some v)
    puts_back g v r m = grind (arith, meets_tells S R (ReleaseWriter g v) (back_answer r) m)

    -- ---- values that aren't borrowed

    pub keeps_free : (call : Action T) (answer : Answer T) → IsSound S → Meets S call answer R
        → (b : GenerationalPointer) → LeavesUnborrowed S call b
        → can_write S b ≡ true → can_write R b ≡ true
    keeps_free call answer s m b = free_stays S R call answer b s m

    pub ends_free : (b : GenerationalPointer) {U : Type 0} (r : Result U (error.Refused BorrowMutError))
        → Meets S (End b) (end_answer r) R → can_write S b ≡ true → IsOk r
    ends_free b r m free = grind (arith, free_ends S R b _ free m)

    pub reads_back : {Q : State T} (b : GenerationalPointer) (l : Location) (g : Guard)
        (flag : Bool) → IsSound S → Meets S (Read b l) (Reads g) R
        → Meets R (ReleaseReader g) (Flag flag) Q → Q ≡ record S { next = S.next + 1 }
    reads_back {Q} b l g flag = read_released S R Q b l g flag

    -- ---- ends

    pub ends : (b : GenerationalPointer) {U : Type 0} (r : Result U (error.Refused BorrowMutError))
        → Meets S (End b) (end_answer r) R → OnOk r (reach R b ≡ None)
    ends b r m = grind (arith, meets_tells S R (End b) (end_answer r) m)

    pub ends_owned : (o : OwnerName) {U V : Type 0} (r : Result U (V × error.Refused BorrowMutError))
        → Meets S (ReleaseOwner o) (release_answer r) R
        → OnOk r ((h : Ownership) (b : GenerationalPointer) → ownership S o ≡ Some h → h.count ≤ 1
        → among h.names (name_of b) ≡ true → reach R b ≡ None)
    unfolding reach
    ends_owned o r m = grind (arith, ended_leads)

    pub points : (a b : GenerationalPointer) {U : Type 0} (r : Result U (error.Refused BorrowMutError))
        → Meets S (Point a b) (end_answer r) R → OnOk r (reach R a ≡ reach S b)
    points a b r m = grind (arith, meets_tells S R (Point a b) (end_answer r) m)

    -- a box that reaches nothing can't be read
    pub unread : (b : GenerationalPointer) (l : Location) (r : Result Guard (error.Refused BorrowError))
        → Meets S (Read b l) (read_answer r) R → reach S b ≡ None → IsErr r
    unread b l r m none = grind arith

    -- ---- owners' lists

    pub owned : (r : Result OwnerName StoreError) → Meets S NewOwner (owner_answer r) R
        → IfOk r (λ o. ownership R o ≡ Some (record { names = []; count = 1 }))
    owned r m = grind (arith, meets_tells S R NewOwner (owner_answer r) m)

    pub lists : (o : OwnerName) (v : T) (l : Location) (r : Result (GenerationalBox T) (Refusal T))
        → Meets S (Make (Some o) v l) (box_answer r) R → IfOk r (λ b. (h : Ownership)
        → ownership S o ≡ Some h → ownership R o ≡ Some (one_listed (name_of (pointer_of b)) h))
    lists o v l r m = grind (arith, meets_tells S R (Make (Some o) v l) (box_answer r) m)

    -- ---- what stays

    -- a box sees the value that it saw
    pub keeps : (call : Action T) (answer : Answer T) → IsSound S → Meets S call answer R
        → (b : GenerationalPointer) (v : T)
        → LeavesValue S call b → value_in S b ≡ Some v → value_in R b ≡ Some v
    keeps call answer s m b v leaves seen =
        grind (arith, seen_reached S b v seen, value_stays S R call answer b)

    -- the same holds of each box that isn't in the list when an owner is released
    pub keeps_unowned : (o : OwnerName) (answer : Answer T) → IsSound S
        → Meets S (ReleaseOwner o) answer R → (h : Ownership) → ownership S o ≡ Some h
        → (b : GenerationalPointer) (v : T) → AllByRecursion (λ n. n ≢ name_of b) h.names
        → value_in S b ≡ Some v → value_in R b ≡ Some v
    keeps_unowned o answer s m h held b v apart = keeps (ReleaseOwner o) answer s m b v
        (ap (λ r. among (names_in r) (name_of b)) (held_record S o h held) ∙ none h.names apart)
      where
        none : (names : List Name) → AllByRecursion (λ n. n ≢ name_of b) names
            → among names (name_of b) ≡ false
        none [] all = refl
        none (n ∷ names) all = grind (arith, name_apart, none names all.1)

    -- and reaches what it reached
    pub keeps_reach : (call : Action T) (answer : Answer T) → IsSound S → Meets S call answer R
        → (b : GenerationalPointer) (m : Name)
        → LeavesBox S call b → reach S b ≡ Some m → reach R b ≡ Some m
    keeps_reach call answer s meets b m = reach_stays S R call answer b m s meets

-- ==== owners' records: which calls list a box there, and which leave a record unchanged

module _ {T : Type 0} where
  -- ---- a box at the end of its owner's list

  module _ {S R : State T} (o : OwnerName) where
    pub lists_shared : (v : T) (l : Location) (r : Result (GenerationalBox T) (Refusal T))
        → Meets S (MakeShared (Some o) v l) (box_answer r) R
        → IfOk r (λ b. (h : Ownership) → ownership S o ≡ Some h
        → ownership R o ≡ Some (one_listed (name_of (pointer_of b)) h))
    lists_shared v l r m = grind (arith, meets_tells S R (MakeShared (Some o) v l) (box_answer r) m)

    pub lists_reference : (c : GenerationalPointer)
        (r : Result (GenerationalBox T) (error.Refused BorrowError))
        → Meets S (Refer (Some o) c) (reference_box_answer r) R
        → IfOk r (λ b. (h : Ownership) → ownership S o ≡ Some h
        → ownership R o ≡ Some (one_listed (name_of (pointer_of b)) h))
    lists_reference c r m =
        grind (arith, meets_tells S R (Refer (Some o) c) (reference_box_answer r) m)

  -- a name that was never issued is in no list
  pub unlisted : (S : State T) (o : OwnerName) (h : Ownership) (n : Name) → IsSound S
      → ownership S o ≡ Some h → set.contains S.given n ≡ false → among h.names n ≡ false
  unlisted S o h n s held new = grind (arith, boxed_among)

  -- ---- what a call leaves of a record

  -- an outcome has the record that an owner had
  abbrev Keeps : State T → OwnerName → Outcome T → Type 0
  Keeps S o out = ownership out.1 o ≡ ownership S o

  -- a call doesn't make this owner
  abbrev IsNotNext : State T → Action T → OwnerName → Type 0
  IsNotNext S NewOwner o =
      ◌≢◌ {A = OwnerName} (record { store = S.number; key = S.next }) o
  IsNotNext S _ o = Unit {0}

  -- a record under another key than the owner's, or in a store that isn't the owner's
  apart : (S : State T) (a o : OwnerName) → is_some (ownership S a) ≡ true → a ≢ o
      → nat_eq o.store S.number ≡ true → o.key ≢ a.key
  apart S a o known ne own = grind arith

  -- no call but those of owners changes a record
  module _ (S : State T) (o : OwnerName) where
    -- the record is kept when another owner's is changed, inserted or removed
    abbrev Kept : Owners → Type 0
    Kept owners = cond (nat_eq o.store S.number) (map.get owners o.key) None ≡ ownership S o

    module _ (a : OwnerName) (known : is_some (ownership S a) ≡ true) (ne : a ≢ o) where
      own_record : (owners : Owners)
          → (o.key ≢ a.key → map.get owners o.key ≡ map.get S.owners o.key) → Kept owners
      own_record owners same = grind (arith, apart S a o known ne, same)

      listed_apart : (n : Name) → Kept (change S.owners a.key (one_listed n))
      listed_apart n = own_record _ (get-changed_apart by_number S.owners a.key (one_listed n) o.key)

      put_apart : (h : Ownership) → Kept (map.insert S.owners a.key h)
      put_apart h = own_record _ (get-insert_apart by_number S.owners a.key h o.key)

      gone_apart : Kept (map.remove S.owners a.key)
      gone_apart = own_record _ (get-remove_apart by_number S.owners a.key o.key)

    act_keeps : (call : Action T) (f : NewNames) → LeavesOwner call o → IsNotNext S call o
        → Keeps S o (act S call f)
    act_keeps (Make (Some a) v l) f ne next = grind (arith, listed_apart a)
    act_keeps (MakeShared (Some a) v l) f ne next = grind (arith, listed_apart a)
    act_keeps (Refer (Some a) b) f ne next = grind (arith, listed_apart a)
    act_keeps NewOwner f ne next = grind (arith, get-insert_apart by_number S.owners S.next, eqb-true)
    act_keeps (CloneOwner a) f ne next = grind (arith, put_apart a)
    act_keeps (ReleaseOwner a) f ne next = grind (arith, put_apart a, gone_apart a)
    act_keeps call f ne next = grind arith

  module _ {S R : State T} where
    -- the same holds of each call that doesn't make the owner
    kept : (call : Action T) (answer : Answer T) → Meets S call answer R → (o : OwnerName)
        → LeavesOwner call o → ((f : NewNames) → (answer, R) ≡ act S call f → IsNotNext S call o)
        → ownership R o ≡ ownership S o
    kept call answer m o ne next = grind (arith, act_keeps S o call, meets_cases S R call answer m)

    -- a call leaves each record but that of the owner by which it goes, and of the one that it gives
    pub keeps_record : (call : Action T) (answer : Answer T) → Meets S call answer R → (o : OwnerName)
        → LeavesOwner call o → GivesOtherOwner call answer o → ownership R o ≡ ownership S o
    keeps_record call answer m o ne gives = grind (arith, kept call answer m o ne)

    -- a known owner keeps its record, unless the call goes by it
    pub keeps_known : (call : Action T) (answer : Answer T) → IsSound S → Meets S call answer R
        → (o : OwnerName) (h : Ownership) → LeavesOwner call o
        → ownership S o ≡ Some h → ownership R o ≡ Some h
    keeps_known call answer s m o h ne held = grind (arith, kept call answer m o ne)

    -- so no owner that a sound store knows is that one
    pub unknown_owner : (r : Result OwnerName StoreError) → IsSound S
        → Meets S NewOwner (owner_answer r) R → IfOk r (λ o. ownership S o ≡ None)
    unknown_owner r s m = grind arith

    pub owner_number : (r : Result OwnerName StoreError) → Meets S NewOwner (owner_answer r) R
        → IfOk r (λ o. o.store ≡ S.number)
    owner_number r m = grind arith

-- ==== names of boxes: that they stay so, that removed names are never live again, and what a box sees
-- that was pointed elsewhere

module _ {T : Type 0} where
  -- ---- names of boxes

  -- a box that reaches something is the store's, and its name was issued to a box
  pub reached_boxed : (S : State T) (b : GenerationalPointer) (m : Name) → IsSound S
      → reach S b ≡ Some m → (b.id.store ≡ S.number) × IsBoxed S (name_of b)
  reached_boxed S b m s to = grind (arith, reaches)

  module _ (S R : State T) (call : Action T) where
    -- so it is of each box that a call gives
    pub made_boxed : (b : GenerationalPointer) → Meets S call (Made b) R → IsBoxed R (name_of b)
    made_boxed b m = grind (arith, meets_says S R call (Made b) m)

    -- and it stays so
    pub boxed_stays : (answer : Answer T) (n : Name) → IsSound S → Meets S call answer R
        → IsBoxed S n → IsBoxed R n
    boxed_stays answer n s m box = search (arith, meets_given, shared_still, meets_follows)

  -- ---- ends

  module _ {S R : State T} where
    -- the name of a box has ended once the box was ended
    pub ended : (b : GenerationalPointer) {U : Type 0} (r : Result U (error.Refused BorrowMutError))
        → Meets S (End b) (end_answer r) R
        → OnOk r (b.id.store ≡ S.number → IsBoxed S (name_of b) → IsEnded R (name_of b))
    ended b r m = grind (arith, box_ends, name_here)

    -- so it is of each name of a list after its owner's last release
    pub ended_owned : (o : OwnerName) {U V : Type 0} (r : Result U (V × error.Refused BorrowMutError))
        → IsSound S → Meets S (ReleaseOwner o) (release_answer r) R
        → OnOk r ((h : Ownership) (n : Name) → ownership S o ≡ Some h → h.count ≤ 1
        → among h.names n ≡ true → IsEnded R n)
    ended_owned o r s m = grind (arith, boxed_among, box_ends)

    -- ---- references that turn

    -- a box that was pointed elsewhere sees what the other saw
    pub points_seen : (a b : GenerationalPointer) {U : Type 0} (r : Result U (error.Refused BorrowMutError))
        → IsSound S → Meets S (Point a b) (end_answer r) R → OnOk r (value_in R a ≡ value_in S b)
    unfolding value_in
    points_seen a b r s m =
        let sound = meets_sound S R (Point a b) (end_answer r) s m in
        let kept = kept_value S R (Point a b) (end_answer r) in
        grind (arith, points a b r m, reached_live R a, reached_live S b, sound, kept)

-- ==== guards: that a store knows them and opens the same until they are released, and that a write
-- which was released sets its value and leaves the rest

-- what is filled twice at one name
filled_twice : {T : Type 0} (m : NameMap (Cell T)) (k : Name) (c d : Content T)
    → change (change m k (refill c)) k (refill d) ≡ change m k (refill d)
filled_twice m k c d = map.same_map name_total name_exact _ _ (λ q. grind (arith, get-changed_name))

module _ {T : Type 0} where
  -- ---- a ticket identifies a guard

  -- the ticket of a known guard is at its cell
  pub reader_stands : (c : Option (Content T)) (t : ℕ)
      → has_reader c t ≡ true → list_any (nat_eq t) (tickets_of c) ≡ true
  reader_stands (Some (Here v (r ∷ readers))) t h =
      grind (arith, nat_eq_equiv, reader_stands (Some (Here v readers)) t)
  reader_stands c t h = grind arith

  pub writer_stands : (c : Option (Content T)) (t : ℕ)
      → has_writer c t ≡ true → list_any (nat_eq t) (tickets_of c) ≡ true
  writer_stands c t h = grind arith

  -- two known guards of one kind and one ticket are one
  one_guard : (has : Option (Content T) → ℕ → Bool)
      → ((c : Option (Content T)) (t : ℕ) → has c t ≡ true → list_any (nat_eq t) (tickets_of c) ≡ true)
      → (S : State T) → IsSound S → (g h : Guard)
      → (nat_eq g.store S.number && has (content_at S g.cell) g.ticket) ≡ true
      → (nat_eq h.store S.number && has (content_at S h.cell) h.ticket) ≡ true → h.ticket ≡ g.ticket
      → h ≡ g
  one_guard has stands S s g h first second same = grind arith

  -- ---- a guard stays known

  module _ (S R : State T) (call : Action T) (answer : Answer T) where
    -- a store knows a guard until that guard is released
    pub reader_kept : IsSound S → Meets S call answer R → (g : Guard) → LeavesGuard call g
        → knows_reader S g ≡ true → knows_reader R g ≡ true
    reader_kept s m g leaves known =
        let one = one_guard has_reader reader_stands S s g in
        grind (arith, meets_cases S R call answer m, one, reader_stays S R call answer s m g)

    pub writer_kept : IsSound S → Meets S call answer R → (g : Guard) → LeavesGuard call g
        → knows_writer S g ≡ true → knows_writer R g ≡ true
    writer_kept s m g leaves known =
        let one = one_guard has_writer writer_stands S s g in
        grind (arith, meets_cases S R call answer m, one, writer_stays S R call answer s m g)

  -- so a known reader's guard opens the same value
  pub reader_sees : (S R : State T) (call : Action T) (answer : Answer T) → IsSound S
      → Meets S call answer R → (g : Guard) → LeavesGuard call g
      → knows_reader S g ≡ true → value_behind R g ≡ value_behind S g
  reader_sees S R call answer s m g leaves known =
      grind (arith, reader_kept S R call answer s m, (meets_follows S R call answer m).view g.cell)

  -- and there is one
  pub reader_opens : (S : State T) (g : Guard) → knows_reader S g ≡ true
      → (v : T) × (value_behind S g ≡ Some v)
  reader_opens S g known = by_option (value_at S g.cell) (λ none. absurd (grind arith))
      (λ v is. (v, rw known is))

  module _ {S R : State T} where
    -- a read that succeeds returns a guard that opens a value, which the box sees
    pub opens_value : (b : GenerationalPointer) (l : Location) (r : Result Guard (error.Refused BorrowError))
        → Meets S (Read b l) (read_answer r) R
        → IfOk r (λ g. (v : T) × (value_behind R g ≡ Some v) × (value_in S b ≡ Some v))
    opens_value b l r m = grind (arith, reads_known S R (Read b l), opens b l r m)

    -- a known reader's release returns true, and a known writer's is done
    pub reader_leaves : (g : Guard) (flag : Bool) → knows_reader S g ≡ true
        → Meets S (ReleaseReader g) (Flag flag) R → flag ≡ true
    reader_leaves g flag known m = grind arith

    pub writer_returns : (g : Guard) (v : T) {U : Type 0} (r : Result U T) → knows_writer S g ≡ true
        → Meets S (ReleaseWriter g v) (back_answer r) R → IsOk r × (R ≡ fill S g.cell (Here v []))
    writer_returns g v r known m = grind arith

  -- ---- a write that was released

  -- what a write that succeeds found and left
  wrote : (S R : State T) (b : GenerationalPointer) (l : Location) (g : Guard) (w : T)
      → Meets S (Write b l) (Writes g w) R
      → (reach S b ≡ Some g.cell) × (content_at S g.cell ≡ Some (Here w []))
      × (R ≡ take_ticket (fill S g.cell (Lent (next_borrow S l))))
  unfolding refusal_to_write
  wrote S R b l g w m = grind (arith, meets_cases S R (Write b l) (Writes g w) m)

  -- a write whose guard was released has set the guard's value, and its release is done
  pub writes_back : {S R Q : State T} (b : GenerationalPointer) (l : Location) (g : Guard) (w v : T)
      {U : Type 0} (r : Result U T) → Meets S (Write b l) (Writes g w) R
      → Meets R (ReleaseWriter g v) (back_answer r) Q → IsOk r × IsSet S b v Q
  writes_back {S} {R} {Q} b l g w v r write release =
      let twice = filled_twice S.cells g.cell (Lent (next_borrow S l)) (Here v []) in
      let known = (writes_known S R (Write b l) g w write).0 in
      grind (arith, wrote S R b l g w write, known, twice, release)

  -- ---- what boxes see then

  -- using a ticket leaves each box
  ticket_leaves : (S : State T) (b : GenerationalPointer) → IsUnchanged S b (take_ticket S)
  unfolding reach value_in
  ticket_leaves S b = record { reached = refl; content = λ m to. refl; seen = refl }

  -- so a read that was released leaves each box
  pub read_leaves : {S R Q : State T} (b : GenerationalPointer) (l : Location) (g : Guard)
      (flag : Bool) → IsSound S → Meets S (Read b l) (Reads g) R
      → Meets R (ReleaseReader g) (Flag flag) Q → (c : GenerationalPointer) → IsUnchanged S c Q
  read_leaves {S} b l g flag s read release c =
      subst (IsUnchanged S c) (sym (reads_back b l g flag s read release)) (ticket_leaves S c)

  -- a value that is filled in is seen by each box that reaches it, and other boxes are left
  module _ {S Q : State T} {b : GenerationalPointer} {v : T} (it : IsSet S b v Q) where
    -- each box that reaches the same sees the value that was set
    pub set_seen : (c : GenerationalPointer) → reach S c ≡ reach S b → value_in Q c ≡ Some v
    unfolding value_in
    set_seen c same =
        let to = filled_reach S it.name (Here v []) c in
        let new = filled_content S it.name (Here v []) (Here it.old []) it.content in
        grind (arith, it.after, it.reached, ticket_leaves (fill S it.name (Here v [])) c, to, new)

    -- another box is left
    pub set_beside : (c : GenerationalPointer) → reach S c ≢ reach S b → IsUnchanged S c Q
    unfolding value_in reach
    set_beside c apart =
        let beside = filled_reach S it.name (Here v []) c in
        grind (arith, it.after, it.reached, get-changed_apart, by_name, beside)

    -- and so is each owner's record
    pub set_owners : (o : OwnerName) → ownership Q o ≡ ownership S o
    set_owners o = ap (λ (X : State T). ownership X o) it.after

-- ==== a call that fails changes nothing

module _ {T : Type 0} where
  -- ---- how calls of the machine fail

  -- A call of the machine fails because of a borrow, for its owner or with its value, and changes nothing
  -- then; or it succeeds.
  pub data IsAnswered (S : State T) : Outcome T → Type 0 where
    troubled : (t : BorrowRefusal) → IsAnswered S (BorrowRefused t, S)
    unknown : IsAnswered S (Refused UnknownOwner, S)
    back : (v : T) → IsAnswered S (Back v, S)
    goes : (out : Outcome T) → refuses out.0 ≡ false → IsAnswered S out

  pub act_answered : (S : State T) (call : Action T) (f : NewNames) → IsAnswered S (act S call f)
  act_answered S call f = grind (arith, troubled, unknown, back, goes)

  pub answered_still : (S : State T) (out : Outcome T) → IsAnswered S out
      → refuses out.0 ≡ true → out.1 ≡ S
  answered_still S out h refused = grind arith

  -- ---- a call that fails changes nothing, whatever the call

  module _ {S R : State T} (call : Action T) where
    pub refused_stays : (answer : Answer T) → Meets S call answer R → refuses answer ≡ true → R ≡ S
    refused_stays answer = meets_each S R call answer (λ out. refuses out.0 ≡ true → out.1 ≡ S)
        (λ _ _. refl) (λ f new. answered_still S _ (act_answered S call f))

    -- so it is of each result
    pub refused_make : (r : Result (GenerationalBox T) (Refusal T)) → Meets S call (box_answer r) R
        → OnErr r (R ≡ S)
    refused_make r m = grind arith

    pub refused_refer : (r : Result (GenerationalBox T) (error.Refused BorrowError))
        → Meets S call (reference_box_answer r) R → OnErr r (R ≡ S)
    refused_refer r m = grind (arith, refused_stays (reference_box_answer r) m)

    pub refused_read : (r : Result Guard (error.Refused BorrowError))
        → Meets S call (read_answer r) R → OnErr r (R ≡ S)
    refused_read r m = grind (arith, refused_stays (read_answer r) m)

    pub refused_write : (r : Result (WriteGuard T) (error.Refused BorrowMutError))
        → Meets S call (write_answer r) R → OnErr r (R ≡ S)
    refused_write r m = grind (arith, refused_stays (write_answer r) m)

    pub refused_free_read : (r : Result Guard StoreError)
        → Meets S call (free_read_answer r) R → OnErr r (R ≡ S)
    refused_free_read r m = grind arith

    pub refused_free_write : (r : Result (WriteGuard T) StoreError)
        → Meets S call (free_write_answer r) R → OnErr r (R ≡ S)
    refused_free_write r m = grind arith

    pub refused_back : {U : Type 0} (r : Result U T) → Meets S call (back_answer r) R → OnErr r (R ≡ S)
    refused_back r m = grind arith

    pub refused_end : {U : Type 0} (r : Result U (error.Refused BorrowMutError))
        → Meets S call (end_answer r) R → OnErr r (R ≡ S)
    refused_end r m = grind (arith, refused_stays (end_answer r) m)

    pub refused_owner : (r : Result OwnerName StoreError) → Meets S call (owner_answer r) R
        → OnErr r (R ≡ S)
    refused_owner r m = grind arith

    pub refused_release : {U V : Type 0} (r : Result U (V × error.Refused BorrowMutError))
        → Meets S call (release_answer r) R → OnErr r (R ≡ S)
    refused_release r m = grind (arith, refused_stays (release_answer r) m)

  -- nor does the release of a reader that isn't known
  pub unknown_reader : {S R : State T} (g : Guard) → Meets S (ReleaseReader g) (Flag false) R → R ≡ S
  unknown_reader g m = grind arith
