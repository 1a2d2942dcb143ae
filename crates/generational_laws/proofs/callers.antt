-- What code over a store cites: lists, boxes, errors, rows, tickets, owners' lists.
pub mod carrying
use Rattle.generational_core.proofs
use proofs.machine.{quiet_free, quiet_fresh, quiet_sees, quiet_stays, same_reach}
use proofs.machine.Calls.{filled_reach, reached_boxed, seen_reached}
use proofs.machine.Calls.Steps.{keep_each, meets_each, meets_follows, reached_live, reaches}
use proofs.machine.Calls.Steps.Changes.{filled_content, new_content}
use proofs.maps.Maps.{get-changed_here, get-changed_none, get-remove_here, kept_key, len_within}
use proofs.maps.Maps.{name_same}
use Rattle.generational_core.specs
use specs.Leaving.{BeginsNoBorrow, GivesOtherOwner, HasNoBorrows, IsOtherOwner, IsSet}
use specs.{Keeping.box_with, Slots.Fits, declared.boxes.GenerationalBoxId.GenerationalBoxId}
use specs.{Leaving.LeavesContent, Leaving.LeavesOwner, Conditions.names_in, Answers.read_refused}
use specs.{Machine.Action.SetValue, Seeing.value_reached, Seeing.value_to_take, Answers.WriteGuard}
use Rattle.generational_errors.specs.declared.error.BorrowError.{BorrowError}
use Rattle.generational_laws.specs.BoxRows.{AreApart, AreRowsKept, EachBox, HasOtherName, IsFree}
use Rattle.generational_laws.specs.BoxRows.{Rows, shown_in, values_in}
use Rattle.generational_laws.specs.PlainStores.{HasNoReferences, IsSimple, MakesNoReference}
use Rattle.generational_laws.specs.{ListedOnce.AreListedOnce, Lacking.IsReference}
use Rattle.std.proofs.{lemmas.Cmp.eq_by_cmp_equiv, lemmas.Map.Keys.IsDistinct-push}
use Rattle.std.specs.Prelude.{IfErr, IfNone, IfOk, IfSome, IsOk, OnErr, slice_index_or, take}
use Rattle.std.specs.{Cmp.IsEquivalence, Result.IsErrAnd, Result.result_ok}
use Rattle.std.specs.FinMap as map
use Rattle.std.specs.FinSet as set
use Rattle.generational_errors.specs.declared.error.Refused as error
use Rattle.generational_errors.specs.declared.error.Refused.TheVariants as refused
unfoldable pub use carrying.*

-- ==== elements of a list after a write, of a beginning, and after a push

module _ {X : Type 0} where
  pub get_set_here : (xs : List X) (i : ℕ) (x : X) → i < length xs
      → slice_get (slice_set xs i x) i ≡ Some x
  get_set_here (y ∷ xs) (suc i) x lt = get_set_here xs i x (omega arith)
  get_set_here xs i x lt = grind arith

  pub get_set_apart : (xs : List X) (i k : ℕ) (x : X) → k ≢ i
      → slice_get (slice_set xs i x) k ≡ slice_get xs k
  get_set_apart (y ∷ xs) (suc i) (suc k) x ne = get_set_apart xs i k x (λ e. ne (ap suc e))
  get_set_apart xs i k x ne = grind arith

  pub get_take : (xs : List X) (n k : ℕ) → k < n → slice_get (take n xs) k ≡ slice_get xs k
  get_take xs zero k lt = absurd (omega arith)
  get_take (y ∷ xs) (suc n) (suc k) lt = get_take xs n k (omega arith)
  get_take xs (suc n) k lt = grind arith

  pub take_within : (xs : List X) (n k : ℕ) (x : X) → slice_get (take n xs) k ≡ Some x → k < n
  take_within xs zero k x is = grind arith
  take_within (y ∷ xs) (suc n) (suc k) x is = omega (arith, take_within xs n k x is)
  take_within xs (suc n) k x is = grind arith

  pub get_pushed : (xs : List X) (k : ℕ) (x y : X) → slice_get (xs ++ x ∷ []) k ≡ Some y
      → (slice_get xs k ≡ Some y) ⊎ ((k ≡ length xs) × (x ≡ y))
  get_pushed (z ∷ xs) (suc k) x y is =
      ⊎_elim inl (λ e. inr (ap suc e.0, e.1)) (get_pushed xs k x y is)
  get_pushed xs k x y is = grind arith

  pub pushed_old : (xs : List X) (k : ℕ) (x y : X) → slice_get xs k ≡ Some y
      → slice_get (xs ++ x ∷ []) k ≡ Some y
  pushed_old (z ∷ xs) (suc k) x y is = pushed_old xs k x y is
  pushed_old xs k x y is = grind arith

  pub pushed_new : (xs : List X) (x : X) → slice_get (xs ++ x ∷ []) (length xs) ≡ Some x
  pushed_new [] x = refl
  pushed_new (z ∷ xs) x = pushed_new xs x

-- ==== what a box reaches and sees depends on its id alone; a box of another store sees nothing. so a
-- call that leaves each box of another name leaves each of another id

module _ {T : Type 0} where
  -- what a box sees lies at what it reaches
  pub same_value_there : (S : State T) (a b : GenerationalPointer) → reach S a ≡ reach S b
      → value_in S a ≡ value_in S b
  unfolding value_in
  same_value_there S a b same = ap (value_reached S) same

  -- and what it reaches depends on its id alone
  pub same_id_reach : (S : State T) (a b : GenerationalPointer) → a.id ≡ b.id → reach S a ≡ reach S b
  unfolding reach
  same_id_reach S a b same = grind arith

  -- a box of another store reaches nothing
  pub unreached : (S : State T) (b : GenerationalPointer) → b.id.store ≢ S.number → reach S b ≡ None
  unreached S b other = grind (arith, reaches)

  pub same_id_sees : (S : State T) (a b : GenerationalPointer) → a.id ≡ b.id
      → value_in S a ≡ value_in S b
  same_id_sees S a b same = same_value_there S a b (same_id_reach S a b same)

  -- the box that is found by an id sees what each box of that id does
  pub found_sees : (S : State T) (id : GenerationalBoxId) (b : GenerationalPointer)
      → Some b ≡ box_with S id → (a : GenerationalPointer) → a.id ≡ id → value_in S a ≡ value_in S b
  found_sees S id b found a same = grind (arith, same_id_sees)

  -- ---- boxes that see values

  abbrev pub IsSeen : State T → GenerationalPointer → Type 0
  IsSeen S b = is_some (value_in S b) ≡ true

  -- such a box is of the store, and has a live cell
  pub seen_reach : (S : State T) (b : GenerationalPointer) → IsSeen S b → (m : Name) × (reach S b ≡ Some m)
  seen_reach S b seen = let v = some_live (value_in S b) seen in seen_reached S b v.0 v.1

  pub seen_cell : (S : State T) (b : GenerationalPointer) → IsSeen S b
      → is_some (map.get S.cells (name_of b)) ≡ true
  seen_cell S b seen = grind (arith, seen_reach, reaches)

  pub seen_store : (S : State T) (b : GenerationalPointer) → IsSound S → IsSeen S b
      → b.id.store ≡ S.number
  seen_store S b s seen = let to = seen_reach S b seen in (reached_boxed S b to.0 s to.1).0

  -- so those of one name are of one id
  pub one_id : (S : State T) (a b : GenerationalPointer) → IsSound S → IsSeen S a → IsSeen S b
      → name_of a ≡ name_of b → a.id ≡ b.id
  one_id S a b s seen saw same = grind (arith, seen_store)

  -- if each box of another name is left, each of another id is
  others_apart : (S R : State T) (a b : GenerationalPointer) → R.number ≡ S.number
      → a.id.store ≡ S.number → (name_of a ≢ name_of b → value_in R b ≡ value_in S b)
      → a.id ≢ b.id → value_in R b ≡ value_in S b
  others_apart S R a b number own left other =
      grind (arith, unseen, unreached, name_cases (name_of a) (name_of b))

  -- a call that leaves each box of another name leaves each of another id
  pub others_left : {S R : State T} (call : Action T) (answer : Answer T)
      → Meets S call answer R → (a b : GenerationalPointer) → a.id.store ≡ S.number
      → (name_of a ≢ name_of b → value_in R b ≡ value_in S b) → a.id ≢ b.id
      → value_in R b ≡ value_in S b
  others_left {S} {R} call answer m a b =
      others_apart S R a b (meets_number S R call answer m)

-- ==== what a store lacks when a call fails without a borrow, and what such a call leaves

module _ {T : Type 0} where
  -- the first reader at a value needs no memory
  pub first_reader : (S : State T) (b : GenerationalPointer) (l : Location)
      → can_write S b ≡ true → may_lack S (Read b l) ≡ false
  unfolding may_lack refusal_to_read refusal_to_write
  first_reader S b l free = grind arith

  module _ {S R : State T} where
    -- a making lacks only memory, if its owner is known
    pub make_lacks : (o : Option OwnerName) (v : T) (l : Location) (e : StoreError)
        → is_known S o ≡ true → Meets S (Make o v l) (Refused e) R → e ≡ OutOfMemory
    make_lacks o v l e known h = grind arith

    -- and a read without other borrows lacks only a ticket
    pub free_read_lacks : (b : GenerationalPointer) (l : Location) (e : StoreError)
        → can_write S b ≡ true → Meets S (Read b l) (Refused e) R
        → (e ≡ NumbersExhausted) × (S.next ≡ last_ticket)
    free_read_lacks b l e free m = grind (arith, first_reader)

    -- ---- tickets

    -- a making and a removal use no ticket
    pub made_next : (v : T) (l : Location) (answer : Answer T)
        → Meets S (Make None v l) answer R → R.next ≡ S.next
    made_next v l answer m = grind arith

    pub ended_next : (b : GenerationalPointer) (answer : Answer T)
        → Meets S (End b) answer R → R.next ≡ S.next
    ended_next b answer m = grind arith

-- ==== stores without references: a box reaches its own cell, and which calls leave a store so

module _ {T : Type 0} where
  -- ---- what a box reaches

  pub reaches_own : (S : State T) → HasNoReferences S → (b : GenerationalPointer) (m : Name)
      → reach S b ≡ Some m → m ≡ name_of b
  reaches_own S plain b m to = grind (arith, reaches)

  -- so boxes that reach the same have one name
  pub reach_apart : (S : State T) → HasNoReferences S → (a b : GenerationalPointer) (m : Name)
      → reach S a ≡ Some m → reach S b ≡ reach S a → name_of a ≡ name_of b
  reach_apart S plain a b m to same = grind (arith, reaches_own)

  -- ---- which calls leave a store so

  abbrev IsNoRef : Option (Cell T) → Type 0
  IsNoRef x = (m : Name) (l : Location) → x ≡ Some (Ref m l) → ⊥

  pub fresh_plain : (number start next : ℕ) → HasNoReferences (fresh {T = T} number start next)
  fresh_plain number start next = grind (arith, map.get-empty {X = Cell T} name_cmp)

  made_plain : {S R : State T} (o : Option OwnerName) (v : T) (l : Location) (answer : Answer T)
      → Meets S (Make o v l) answer R → HasNoReferences S → HasNoReferences R
  made_plain o v l answer m plain = grind (arith, get-insert_here, by_name, get-insert_apart)

  refilled : (d : Content T) (c : Cell T) (m : Name) (l : Location)
      → IsNoRef (Some c) → Some (refill d c) ≡ Some (Ref m l) → ⊥
  refilled d c m l plain is = grind arith

  kept_plain : {S R : State T} (call : Action T) (answer : Answer T) → Meets S call answer R
      → is_making call ≡ false → HasNoReferences S → HasNoReferences R
  kept_plain {S} {R} call answer meets other plain = record {
    none = λ n. keep_each (meets_follows S R call answer meets) n (λ x y. IsNoRef x → IsNoRef y)
        (λ x h. h) (λ free h m l is. cc)
        (λ new is quiet h. cc (ap (λ names. set.contains names n) given))
        (λ k c here law had has h m l is. refilled (new_content S k) c m l h is)
        (λ m j l h. absurd (h m l refl)) (plain.none n);
  }
    where
      given : R.given ≡ S.given
      given = meets_each S R call answer (λ out. out.1.given ≡ S.given) (λ _. refl)
          (λ f new. (act_start S call f).given other) meets

  pub stays_plain : {S R : State T} (call : Action T) (answer : Answer T) → Meets S call answer R
      → MakesNoReference call → HasNoReferences S → HasNoReferences R
  stays_plain (Make o v l) answer m none plain = made_plain o v l answer m plain
  stays_plain (MakeShared o v l) answer m none plain = absurd none
  stays_plain (Refer o b) answer m none plain = absurd none
  stays_plain call answer m none plain = kept_plain call answer m refl plain

-- ==== what clauses on results and options say of the value that a caller goes on with

module _ {X : Type 0} where
  -- what follows if a result is Ok
  pub on_ok_so : {E P Q : Type 0} (r : Result X E) → (P → Q) → OnOk r P → OnOk r Q
  on_ok_so r so p = grind arith

  -- and if it is Err
  pub err_so : {E : Type 0} {P Q : E → Type 0} (r : Result X E) → ((e : E) → P e → Q e)
      → IsErrAnd r P → IfErr r Q
  err_so r so p = grind arith

  -- what follows of the option into which a result was made
  pub some_so : {E : Type 0} {P Q : X → Type 0} (r : Result X E) (o : Option X) → o ≡ result_ok r
      → ((x : X) → P x → Q x) → IfOk r P → IfSome o Q
  some_so r o is so p = grind arith

  pub none_so : {E : Type 0} (Q : Type 0) (r : Result X E) (o : Option X) → o ≡ result_ok r
      → OnErr r Q → IfNone o Q
  none_so Q r o is q = grind arith

  -- an option that has a known value, and one whose value is known to be what something has
  pub has : (r : Option X) (v : X) → r ≡ Some v → IfSome r (λ s. s ≡ v)
  has r v e = grind arith

  pub finds : (r o : Option X) (v : X) → IfSome r (λ s. o ≡ Some s) → o ≡ Some v
      → IfSome r (λ s. s ≡ v)
  finds r o v seen is = grind arith

-- ==== rows of boxes: one added, one emptied, and a state in which they have the same values

module _ {T : Type 0} where
  -- ---- what holds of each box

  pub each_so : {P Q : GenerationalPointer → Type 0} (rows : Rows T)
      → ((b : GenerationalPointer) → P b → Q b) → EachBox P rows → EachBox Q rows
  each_so [] h all = tt
  each_so {P} {Q} (r ∷ rows) h all = grind (arith, each_so {P = P} {Q = Q} rows h)

  each_pushed : (P : GenerationalPointer → Type 0) (rows : Rows T) (a : GenerationalBox T)
      → EachBox P rows → P (pointer_of a) → EachBox P (rows ++ Some a ∷ [])
  each_pushed P [] a all new = (new, tt)
  each_pushed P (r ∷ rows) a all new = grind (arith, each_pushed P rows a)

  each_emptied : (P : GenerationalPointer → Type 0) (rows : Rows T) (row : ℕ)
      → EachBox P rows → EachBox P (slice_set rows row None)
  each_emptied P (r ∷ rows) (suc row) all = grind (arith, each_emptied P rows row)
  each_emptied P rows row all = grind arith

  pub each_at : (P : GenerationalPointer → Type 0) (rows : Rows T) (row : ℕ) (a : GenerationalBox T)
      → EachBox P rows → slice_index_or rows row None ≡ Some a → P (pointer_of a)
  each_at P (r ∷ rows) (suc row) a all is = grind (arith, each_at P rows row a)
  each_at P rows row a all is = grind arith

  -- ---- names

  apart_pushed : (rows : Rows T) (a : GenerationalBox T) → AreApart rows
      → EachBox (HasOtherName (pointer_of a)) rows → AreApart (rows ++ Some a ∷ [])
  apart_pushed [] a apart new = (tt, tt)
  apart_pushed (r ∷ rows) a apart new = grind (arith, apart_pushed rows a, each_pushed)

  apart_emptied : (rows : Rows T) (row : ℕ) → AreApart rows
      → AreApart (slice_set rows row None)
  apart_emptied (r ∷ rows) (suc row) apart = grind (arith, apart_emptied rows row, each_emptied)
  apart_emptied rows row apart = grind arith

  -- once a row is emptied, all others have other names than its box
  others : (rows : Rows T) (row : ℕ) (a : GenerationalBox T) → AreApart rows
      → slice_index_or rows row None ≡ Some a
      → EachBox (HasOtherName (pointer_of a)) (slice_set rows row None)
  others (r ∷ rows) (suc row) a apart is = grind (arith, others rows row a, each_at)
  others rows row a apart is = grind arith

  -- ---- values

  pub shown_at : (S : State T) (rows : Rows T) (row : ℕ)
      → slice_index_or (values_in S rows) row None ≡ shown_in S (slice_index_or rows row None)
  shown_at S (r ∷ rows) (suc row) = shown_at S rows row
  shown_at S rows row = grind arith

  -- an empty row may be emptied
  pub empty_again : (S : State T) (rows : Rows T) (row : ℕ) → slice_index_or rows row None ≡ None
      → slice_set (values_in S rows) row None ≡ values_in S rows
  empty_again S (r ∷ rows) (suc row) is = cc (empty_again S rows row is)
  empty_again S rows row is = grind arith

  -- the row of a box is one of the rows
  pub within : (rows : Rows T) (row : ℕ) (a : GenerationalBox T)
      → slice_index_or rows row None ≡ Some a → row < length rows
  within (r ∷ rows) (suc row) a is = omega (arith, within rows row a is)
  within rows row a is = grind arith

  -- a state keeps a box: it sees the same value, which stays unborrowed if it was
  pub record Keeps (S R : State T) (b : GenerationalPointer) : Type 0 where
    pub free : can_write S b ≡ true → can_write R b ≡ true
    pub seen : (v : T) → value_in S b ≡ Some v → value_in R b ≡ Some v

  -- a state without a ticket keeps each box
  pub ticket_keeps : (S : State T) (b : GenerationalPointer)
      → Keeps S (record S { next = S.next + 1 }) b
  unfolding value_in reach refusal_to_write
  ticket_keeps S b = record { free = λ e. e; seen = λ v e. e }

  -- rows whose boxes are kept have the same values
  values_kept : (S R : State T) (rows : Rows T) → IsSound S → EachBox (IsFree S) rows
      → EachBox (Keeps S R) rows → values_in R rows ≡ values_in S rows
  values_kept S R [] s free all = refl
  values_kept S R (r ∷ rows) s free all = grind (arith, values_kept S R rows s, free_sees)

  still_free : (S R : State T) (rows : Rows T)
      → EachBox (IsFree S) rows → EachBox (Keeps S R) rows → EachBox (IsFree R) rows
  still_free S R [] free all = tt
  still_free S R (r ∷ rows) free all = grind (arith, still_free S R rows)

  -- ---- rows after a call of their store

  module _ {S R : State T} (s : IsSound S) (rows : Rows T) (k : AreRowsKept S rows) where
    -- rows whose boxes are all kept
    rows_kept : ((b : GenerationalPointer) → Keeps S R b)
        → AreRowsKept R rows × (values_in R rows ≡ values_in S rows)
    rows_kept keeps =
        let free = each_so {P = IsFree S} {Q = IsFree R} rows (λ b. (keeps b).free) k.free in
        let all = each_so {P = IsFree S} {Q = Keeps S R} rows (λ b _. keeps b) k.free in
        (assumption (free, k.apart), values_kept S R rows s k.free all)

    -- a making leaves the rows, even if it fails
    pub made_beside : (o : Option OwnerName) (v : T) (l : Location) (answer : Answer T)
        → Meets S (Make o v l) answer R → AreRowsKept R rows × (values_in R rows ≡ values_in S rows)
    made_beside o v l answer m = search (arith, rows_kept, keeps_free, keeps)

    -- and its box may be at their end
    pub made_last : (o : Option OwnerName) (v : T) (l : Location) (a : GenerationalBox T)
        → Meets S (Make o v l) (Made (pointer_of a)) R → AreRowsKept R (rows ++ Some a ∷ [])
        × (values_in R (rows ++ Some a ∷ []) ≡ values_in S rows ++ Some v ∷ [])
    made_last o v l a m =
        let kept = made_beside o v l (Made (pointer_of a)) m in
        let apart = made_apart o v l (Ok a) s m in
        let other = each_so {P = IsFree S} {Q = HasOtherName (pointer_of a)} rows
        (λ b can. let saw = free_sees S b s can in apart b saw.0 saw.1) k.free in
        let free = each_pushed (IsFree R) rows a kept.0.free (made_free o v l (Ok a) m) in
        let shown = map-append (shown_in R) rows (Some a ∷ []) in let sees = made o v l (Ok a) m in
        (assumption (free, apart_pushed rows a k.apart other), cc (shown, kept.1, sees))

    -- a read that was released leaves the rows
    pub read_beside : R ≡ record S { next = S.next + 1 }
        → AreRowsKept R rows × (values_in R rows ≡ values_in S rows)
    read_beside is = rows_kept (λ b. subst (λ X. Keeps S X b) (sym is) (ticket_keeps S b))

    -- the row of a box that was ended is emptied
    pub ended_row : (row : ℕ) (a : GenerationalBox T) → slice_index_or rows row None ≡ Some a
        → Meets S (End (pointer_of a)) Done R → AreRowsKept R (slice_set rows row None)
        × (values_in R (slice_set rows row None) ≡ slice_set (values_in S rows) row None)
    ended_row row a is m =
        let left = slice_set rows row None in
        let free = each_emptied (IsFree S) rows row k.free in
        let kept = each_so {P = HasOtherName (pointer_of a)} {Q = Keeps S R} left
        (λ b other. record {
          free = keeps_free (End (pointer_of a)) Done s m b other;
          seen = λ w. keeps (End (pointer_of a)) Done s m b w other;
        }) (others rows row a k.apart is) in
        let still = still_free S R left free kept in let apart = apart_emptied rows row k.apart in
        (assumption (still, apart), values_kept S R left s free kept ∙ map-set (shown_in S) rows row None)

-- ==== what a box returns when it is removed: the value that it sees, and in a store of plain values
-- without borrows each value that is seen

module _ {T : Type 0} where
  pub taken_seen : (S : State T) (b : GenerationalPointer) (v : T)
      → value_to_take S b ≡ Some v → value_in S b ≡ Some v
  unfolding value_to_take value_in reach
  taken_seen S b v h = grind arith

  pub simple_taken : (S : State T) → IsSound S → HasNoReferences S → HasNoBorrows S
      → (b : GenerationalPointer) → value_to_take S b ≡ value_in S b
  unfolding value_to_take value_in reach
  simple_taken S sound plain free b = grind arith

-- ==== which ticket comes next: the calls of owners use none

module _ {T : Type 0} (S R : State T) where
  -- these calls use none
  pub put_next : (o : OwnerName) (v : T) (l : Location) (answer : Answer T)
      → Meets S (Make (Some o) v l) answer R → R.next ≡ S.next
  put_next o v l answer m = grind arith

  pub release_next : (o : OwnerName) (answer : Answer T) → Meets S (ReleaseOwner o) answer R
      → R.next ≡ S.next
  release_next o answer m = grind arith

-- ==== what calls leave: one that changed nothing, one after another, and a write that was released

module _ {T : Type 0} where
  -- a box is unchanged if nothing changed
  pub left_still : {S R : State T} (b : GenerationalPointer) → R ≡ S → IsUnchanged S b R
  left_still b is = rw is (record { reached = refl; content = λ m to. refl; seen = refl })

  -- and if only a ticket was issued
  pub left_ticket : (S : State T) (b : GenerationalPointer) → IsUnchanged S b (take_ticket S)
  unfolding reach value_in
  left_ticket S b = record { reached = refl; content = λ m to. refl; seen = refl }

  -- and if two calls leave it unchanged
  pub left_twice : {S R Q : State T} {b : GenerationalPointer} → IsUnchanged S b R → IsUnchanged R b Q
      → IsUnchanged S b Q
  left_twice first second = grind arith

  -- and by a call that leaves it, if its name was issued before
  pub left_given : {S R : State T} (call : Action T) (answer : Answer T) → IsSound S
      → Meets S call answer R → (b : GenerationalPointer) → LeavesContent S call b
      → IsGiven S (name_of b) → IsUnchanged S b R
  left_given call answer s m b leaving given = search (arith, leaves, given_other)

  -- a write whose guard got another value and was released has set that value
  pub written_by : {S R Q : State T} (b : GenerationalPointer) (l : Location) (w now : WriteGuard T)
      (v : T) {U : Type 0} (r : Result U T) → Meets S (Write b l) (Writes w.guard w.value) R
      → Meets R (ReleaseWriter now.guard now.value) (back_answer r) Q
      → now ≡ record w { value = v } → IsOk r × IsSet S b v Q
  written_by {S} {R} {Q} b l w now v {U} r write release is =
      writes_back b l w.guard w.value v {U = U} r write
      (rw is at release)

  -- and each box that reaches what was set may be written then
  pub set_free : {S Q : State T} {b : GenerationalPointer} {v : T} → IsSet S b v Q
      → (c : GenerationalPointer) → reach S c ≡ reach S b → can_write Q c ≡ true
  set_free {S} {Q} {b} {v} it c same =
      let filled = fill S it.name (Here v []) in
      rw it.after ((ticket_keeps filled c).free (rests_free filled c it.name (record {
        reaches = filled_reach S it.name (Here v []) c ∙ (same ∙ it.reached);
        free = ap write_refusal (filled_content S it.name (Here v []) (Here it.old []) it.content);
      })))

-- ==== why calls of new boxes fail: how many slots a making takes, and that a borrow which nothing
-- hinders takes a ticket and no memory

-- a map with another entry, or a changed one, has at most another key
one_longer : {X : Type 0} (m : map.FinMap nat_cmp X) (k : ℕ) (v : X)
    → map.len (map.insert m k v) ≤ map.len m + 1
one_longer m k v = grind (arith, map.len-insert)

module _ {T : Type 0} where
  -- ---- slots

  -- a new cell takes no slot but its own
  pub one_taken : (S : State T) (n : Name) (c : Cell T) → free S ≤ free (add_cell S n c) + 1
  one_taken S n c =
      let within = len_within by_number (map.retain_keys (slots_of S) (is_free S))
      (map.insert left n.slot 0) (λ s h. ⊎_elim (here s h) (apart s h) (key_cases by_number s n.slot)) in
      let longer = one_longer left n.slot 0 in
      omega (arith, within, longer)
    where
      R : State T
      R = add_cell S n c

      left : map.FinMap nat_cmp ℕ
      left = map.retain_keys (slots_of R) (is_free R)

      here : (s : ℕ) → map.contains_key (map.retain_keys (slots_of S) (is_free S)) s ≡ true
          → s ≡ n.slot → map.contains_key (map.insert left n.slot 0) s ≡ true
      here s h is = grind (arith, get-insert_here, by_number)

      apart : (s : ℕ) → map.contains_key (map.retain_keys (slots_of S) (is_free S)) s ≡ true
          → s ≢ n.slot → map.contains_key (map.insert left n.slot 0) s ≡ true
      apart s h ne = let kept = keep_view by_number (slots_of S) (is_free S) s in
          grind (arith, lasts_insert, get-insert_apart, kept_key, by_number, by_name)

  -- ---- makings by no owner

  -- whether an answer gives a box
  abbrev is_box : Answer T → Bool
  is_box (Made b) = true
  is_box _ = false

  abbrev box_or : GenerationalPointer → Answer T → GenerationalPointer
  box_or b (Made c) = c
  box_or b _ = b

  module _ {S R : State T} where
    pub make_short : (v : T) (l : Location) (e : StoreError) → Meets S (Make None v l) (Refused e) R
        → (e ≡ OutOfMemory) × (free S ≡ 0)
    unfolding may_lack
    make_short v l e h = grind arith

    pub share_short : (v : T) (l : Location) (e : StoreError)
        → Meets S (MakeShared None v l) (Refused e) R → (e ≡ OutOfMemory) × (free S < 2)
    unfolding may_lack
    share_short v l e h = grind arith

  -- a shared value takes at most two slots and no ticket; its box is that of a reference to a new cell
  pub record Shares (S R : State T) (b : GenerationalPointer) : Type 0 where
    pub slots : free S ≤ free R + 2
    pub next : R.next ≡ S.next
    pub reference : IsReference R b
    pub new : set.contains S.given reference.shared ≡ false

  pub shares : {S R : State T} (v : T) (l : Location) (b : GenerationalPointer)
      → Meets S (MakeShared None v l) (Made b) R → Shares S R b
  shares {S} {R} v l b m = ⊎_elim (λ refused. absurd (true≢false (sym refused.0)))
      (λ acts. subst (λ (out : Outcome T). Shares S out.1 (box_or b out.0)) (sym acts.2)
      (made acts.0.first acts.0.second (new_fresh S (MakeShared None v l) acts.0 acts.1).0))
      (meets_cases S R (MakeShared None v l) (Made b) m)
    where
      made : (m n : Name) → set.contains S.given m ≡ false → Shares S
          (add_cell (add_cell S m (Shared (Here v []) l)) n (Ref m l)) (box_of S.number n l)
      made m n new =
          let shared = add_cell S m (Shared (Here v []) l) in
          let first = one_taken S m (Shared (Here v []) l) in
          let second = one_taken shared n (Ref m l) in
          let cell = get-insert_here by_name shared.cells n (Ref m l) in
          record {
            slots = omega arith;
            next = refl;
            reference = record { own = refl; shared = m; created_at = l; cell = cell };
            new = new;
          }

  -- so no box whose name was issued before reaches it
  pub shared_apart : {S R : State T} (v : T) (l : Location) (b : GenerationalPointer) → IsSound S
      → Meets S (MakeShared None v l) (Made b) R → (c : GenerationalPointer)
      → IsGiven S (name_of c) → reach R b ≢ reach R c
  shared_apart {S} {R} v l b s m c given same =
      let it = shares v l b m in
      let sound = meets_sound S R (MakeShared None v l) (Made b) s m in
      let to = ref_reaches R b it.reference.shared it.reference.created_at sound it.reference.own
      it.reference.cell in
      let was = leaves S R (MakeShared None v l) (Made b) s m c tt
      (given_other S R (MakeShared None v l) (Made b) c m given) in
      let old = reached_live S c it.reference.shared s (cc (was.reached, same, to.0)) in
      cc (it.new, s.given it.reference.shared old)

  -- ---- a reference to a value that no writer has

  limited : (S : State T) (out : Outcome T) → is_box out.0 ≡ true → limit_tickets S out ≡ out
  limited S out h = grind arith

  pub refer_short : {S R : State T} (b : GenerationalPointer) (e : error.Refused BorrowError)
      → IsSound S → IsReference S b → can_read S b ≡ true
      → Meets S (Refer None b) (read_refused e) R
      → (e ≡ refused.Store OutOfMemory) × (free S ≡ 0)
  unfolding may_lack
  refer_short b e s r can h = grind (arith, ref_reaches)

  -- ---- borrows that nothing hinders

  module _ {S R : State T} (b : GenerationalPointer) (l : Location) (s : IsSound S)
      (alone : can_write S b ≡ true) where
    -- it fails only if all tickets were issued
    pub write_short : (e : error.Refused BorrowMutError) → Meets S (Write b l) (end_refused e) R
        → (e ≡ refused.Store NumbersExhausted) × (S.next ≡ last_ticket)
    unfolding may_lack
    write_short e m = grind arith

    pub read_short : (e : error.Refused BorrowError) → Meets S (Read b l) (read_refused e) R
        → (e ≡ refused.Store NumbersExhausted) × (S.next ≡ last_ticket)
    unfolding may_lack refusal_to_read refusal_to_write
    read_short e m = grind arith

  -- ---- tickets

  -- a reference takes none
  pub referred_next : {S R : State T} (b : GenerationalPointer) (answer : Answer T)
      → Meets S (Refer None b) answer R → R.next ≡ S.next
  referred_next b answer m = grind arith

  -- and if the value that it names may be written, it may be written through the new box
  pub referred_free : {S R : State T} (o : Option OwnerName) (c : GenerationalPointer)
      (b : GenerationalBox T) → IsSound S → Meets S (Refer o c) (Made (pointer_of b)) R
      → can_write S c ≡ true → can_write R (pointer_of b) ≡ true
  referred_free {S} {R} o c b s m alone =
      let free = keeps_free (Refer o c) (Made (pointer_of b)) s m c tt alone in
      let to = referred_together o c (Ok b) s m in grind (arith, rests, rests_free)

-- ==== what a table or a tree keeps of its store, after each of its calls: no borrow, no reference,
-- and slots that are bounded

module _ {T : Type 0} where
  -- ---- makings, and calls that make nothing

  pub fresh_simple : (number start next : ℕ) → IsSimple (fresh {T = T} number start next)
  fresh_simple number start next = search (arith, quiet_fresh, fresh_plain, fresh_bounded)

  module _ {S R : State T} (s : IsSound S) (k : IsSimple S) where
    pub made_simple : (v : T) (l : Location) (b : GenerationalPointer)
        → Meets S (Make None v l) (Made b) R → IsSimple R
    made_simple v l b m = search (arith, quiet_stays, stays_plain, meets_bounded)

    -- each call that makes no reference and begins no borrow
    pub simple_still : (call : Action T) (answer : Answer T) → Meets S call answer R
        → BeginsNoBorrow call → MakesNoReference call → IsSimple R
    simple_still call answer m begins plain =
        search (arith, quiet_stays, stays_plain, meets_bounded)

  -- in a store without borrows the test of a write finds which they are
  pub free_seen : {S : State T} (b : GenerationalPointer) → IsSound S → IsSimple S → {r : Bool}
      → r ≡ can_write S b → r ≡ true → IsSeen S b
  free_seen {S} b s k is can = sym (quiet_sees S k.unborrowed b s) ∙ (sym is ∙ can)

  pub stuck_unseen : {S : State T} (b : GenerationalPointer) → IsSound S → IsSimple S → {r : Bool}
      → r ≡ can_write S b → r ≡ false → value_in S b ≡ None
  stuck_unseen b s k is cannot = grind (arith, quiet_sees)

  -- and what a box reaches does
  pub reached_alike : (S R : State T) (b : GenerationalPointer) → IsSound S → IsSound R
      → HasNoBorrows S → HasNoBorrows R → reach R b ≡ reach S b
      → is_some (value_in R b) ≡ is_some (value_in S b)
  reached_alike S R b s r quiet still same = grind (arith, unseen, free_sees, quiet_free)

  -- in a fresh store no box sees a value
  pub fresh_sees : (number start next : ℕ) (b : GenerationalPointer)
      → value_in (fresh {T = T} number start next) b ≡ None
  fresh_sees number start next b = let none = map.get-empty {X = Cell T} name_cmp in
      let seen = seen_cell (fresh {T = T} number start next) b in grind arith

  -- after a set the same boxes see a value
  pub set_seen : {S R : State T} → IsSound S → HasNoBorrows S → (a : GenerationalPointer) (v old : T)
      → Meets S (SetValue a v) (Old old) R → (b : GenerationalPointer)
      → is_some (value_in R b) ≡ is_some (value_in S b)
  set_seen s quiet a v old m b = search (arith, quiet_stays, same_reach, reached_alike, meets_sound)

  -- what a making without an owner returns and leaves
  pub record IsMaking (S : State T) (v : T) (l : Location) (b : GenerationalPointer) (R : State T) : Type 0 where
    pub fits : Fits S (name_of b)
    pub after : R ≡ add_cell S (name_of b) (Value (Here v []) l)
    pub made_at : b.created_at ≡ l

  pub making : {S R : State T} (v : T) (l : Location) (b : GenerationalPointer)
      → Meets S (Make None v l) (Made b) R → IsMaking S v l b R
  making v l b m = grind arith

-- ==== owners' lists: no name is twice in one, nor in two of them, and each call keeps it so

-- names are compared for equality
name_equal : IsEquivalence is_name
unfolding is_name
name_equal = eq_by_cmp_equiv name_total

-- two owners are one, or two
owner_cases : (a o : OwnerName) → (a ≡ o) ⊎ (a ≢ o)
owner_cases a o = grind arith

-- a name that isn't among others, nor the one after them, isn't among all of them
unlisted_pushed : (names : List Name) (m n : Name) → among names n ≡ false → n ≢ m
    → among (names ++ m ∷ []) n ≡ false
unlisted_pushed names m n before ne = grind (arith, list_any-append, name_apart)

module _ {T : Type 0} where
  -- the names of an owner's list: none if the store doesn't know the owner
  abbrev names_of : State T → OwnerName → List Name
  names_of S o = names_in (ownership S o)

  -- the same of these lists
  record AreDisjoint (S : State T) : Type 0 where
    once : (o : OwnerName) → IsDistinct is_name (names_of S o)
    apart : (o p : OwnerName) (n : Name) → o ≢ p → among (names_of S o) n ≡ true
        → among (names_of S p) n ≡ false

  to_lists : {S : State T} → AreListedOnce S → AreDisjoint S
  unfolding IsDistinct
  to_lists l = grind arith

  from_lists : {S : State T} → AreDisjoint S → AreListedOnce S
  from_lists a = grind arith

  pub fresh_listed : (number start next : ℕ) → AreListedOnce (fresh {T = T} number start next)
  fresh_listed number start next = grind (arith, map.get-empty {X = Ownership} nat_cmp)

  -- ---- what becomes of the list of the owner that a call is made by

  -- it is the same, or none, or has another name, which was never issued
  data Becomes (S : State T) (old new : List Name) : Type 0 where
    as_was : new ≡ old → Becomes S old new
    emptied : new ≡ [] → Becomes S old new
    more : (n : Name) → set.contains S.given n ≡ false → new ≡ old ++ n ∷ [] → Becomes S old new

  module _ (S : State T) (a : OwnerName) where
    abbrev Follows : Outcome T → Type 0
    Follows out = Becomes S (names_of S a) (names_of out.1 a)

    unless_follows : (t : Option BorrowRefusal) (out : Outcome T) → Follows out
        → Follows (unless t S out)
    unless_follows None out h = h
    unless_follows (Some t) out h = as_was refl

    -- in a store's own list or in another store's, when a name is added after the others
    listed : (owners : Owners) (own : Bool) (n : Name) → set.contains S.given n ≡ false
        → Becomes S (names_in (cond own (map.get owners a.key) None))
        (names_in (cond own (map.get (change owners a.key (one_listed n)) a.key) None))
    listed owners false n new = as_was refl
    listed owners true n new = at (map.get owners a.key) refl
      where
        at : (x : Option Ownership) → map.get owners a.key ≡ x
            → Becomes S (names_in (map.get owners a.key)) (names_in (map.get (change owners a.key (one_listed n)) a.key))
        at None is = as_was (ap (λ m. names_in (map.get m a.key))
            (get-changed_none by_number owners a.key (one_listed n) is))
        at (Some h) is = more n new
            (rw (get-changed_here by_number owners a.key (one_listed n) h is, is))

    -- when the owner's record is replaced
    put : (own : Bool) (names : List Name) (h : Ownership) → h.names ≡ names
        → Becomes S names (names_in (cond own (map.get (map.insert S.owners a.key h) a.key) None))
    put own names h is = grind (arith, get-insert_here, by_number)

    removed : (own : Bool) (names : List Name)
        → Becomes S names (names_in (cond own (map.get (map.remove S.owners a.key) a.key) None))
    removed own names = grind (arith, get-remove_here, by_number)

    refer_listed : (b : GenerationalPointer) (to : Option Name) (target : Option (Cell T)) (n : Name)
        → set.contains S.given n ≡ false → Follows (refer S (Some a) b to target n)
    refer_listed b (Some m) (Some (Shared c l)) n new =
        listed S.owners (nat_eq a.store S.number) n new
    refer_listed b to target n new = as_was refl

    cloned : (x : Option Ownership) → ownership S a ≡ x
        → Becomes S (names_in x) (names_of (clone_owner S a x).1 a)
    cloned None is = as_was (ap names_in is)
    cloned (Some h) is = put (nat_eq a.store S.number) h.names (one_more h) refl

    released : (x : Option Ownership) → ownership S a ≡ x
        → Becomes S (names_in x) (names_of (release_owner S a x).1 a)
    released None is = as_was (ap names_in is)
    released (Some h) is = by_cond (λ (out : Outcome T). Becomes S h.names (names_of out.1 a))
        (nat_lt 1 h.count) (λ _. put (nat_eq a.store S.number) h.names (one_less h) refl)
        (λ _. (elim (hindrance_to S h.names) as (λ t. Becomes S h.names (names_of (unless t S
        (Answer.Done, record (close S h.names) { owners = map.remove S.owners a.key })).1 a))
        [ None ↦ removed (nat_eq a.store S.number) h.names | Some t ↦ as_was (ap names_in is) ]))

  -- ---- what each call leaves

  -- a name that was never issued is in no list
  unlisted_by : (S : State T) → IsSound S → (o : OwnerName) (n : Name)
      → set.contains S.given n ≡ false → among (names_of S o) n ≡ false
  unlisted_by S s o n new = grind (arith, unlisted)

  module _ (S R : State T) (s : IsSound S) (a : AreDisjoint S) where
    module _ (o : OwnerName) where
      once_after : Becomes S (names_of S o) (names_of R o) → IsDistinct is_name (names_of R o)
      unfolding IsDistinct
      once_after h = grind (arith, a.once o, IsDistinct-push name_equal, unlisted_by)

      -- a name of this list, after the call, was in no other; and a name of another isn't in it then
      apart_from : (p : OwnerName) (n : Name) → o ≢ p → Becomes S (names_of S o) (names_of R o)
          → among (names_of R o) n ≡ true → among (names_of S p) n ≡ false
      apart_from p n ne h there = grind (arith, unlisted_by, name_same, list_any-append)

      apart_after : (p : OwnerName) (n : Name) → o ≢ p → Becomes S (names_of S o) (names_of R o)
          → among (names_of S p) n ≡ true → among (names_of R o) n ≡ false
      apart_after p n ne h there = grind (arith, a.apart p o n, unlisted_pushed, unlisted_by)

      -- if the other lists are unchanged
      keeps_apart : ((p : OwnerName) → o ≢ p → names_of R p ≡ names_of S p)
          → Becomes S (names_of S o) (names_of R o) → AreDisjoint R
      keeps_apart others own = record {
        once = λ p. grind (arith, owner_cases o p, others p, a.once p, once_after own);
        apart = λ p q n ne there. let from = λ (one : o ≢ q). apart_from q n one own in
            let after = λ (one : o ≢ p). apart_after p n one own in
            let mine = owner_cases o p in let his = owner_cases o q in let was = a.apart p q n ne in
            let p_was = others p in let q_was = others q in grind arith;
      }

    -- if all lists are
    all_kept : ((o : OwnerName) → names_of R o ≡ names_of S o) → AreDisjoint R
    all_kept still = grind arith

    module _ (call : Action T) (answer : Answer T) (m : Meets S call answer R) where
      -- a call by an owner keeps the lists so, if the machine's outcome does
      by_owner : (o : OwnerName)
          → ((p : OwnerName) → o ≢ p → LeavesOwner call p × GivesOtherOwner call answer p)
          → ((f : NewNames) → AreNew S call f → Follows S o (act S call f)) → AreDisjoint R
      by_owner o others follows = keeps_apart o (λ p ne. ap names_in
          (keeps_record call answer m p (others p ne).0 (others p ne).1))
          (meets_each S R call answer (Follows S o) (λ refused. as_was refl) follows m)

  calls_apart : {S R : State T} → IsSound S → AreDisjoint S → (call : Action T) (answer : Answer T)
      → Meets S call answer R → AreDisjoint R
  calls_apart {S} {R} s a (Make (Some o) v l) answer m = by_owner S R s a _ answer m o
      (λ p ne. (ne, tt)) (λ f new. by_cond (Follows S o) (is_known S (Some o))
      (λ _. listed S o S.owners (nat_eq o.store S.number) f.first new.ungiven) (λ _. as_was refl))
  calls_apart {S} {R} s a (MakeShared (Some o) v l) answer m = by_owner S R s a _ answer m o
      (λ p ne. (ne, tt)) (λ f new. by_cond (Follows S o) (is_known S (Some o))
      (λ _. listed S o S.owners (nat_eq o.store S.number) f.second
      (new_fresh S (MakeShared (Some o) v l) f new).1) (λ _. as_was refl))
  calls_apart {S} {R} s a (Refer (Some o) b) answer m = by_owner S R s a _ answer m o
      (λ p ne. (ne, tt)) (λ f new. by_cond (Follows S o) (is_known S (Some o))
      (λ _. unless_follows S o (refusal_to_read S b) _
      (refer_listed S o b (reach S b) (cell_at S (reach S b)) f.first new.ungiven)) (λ _. as_was refl))
  calls_apart {S} {R} s a (CloneOwner o) answer m = by_owner S R s a _ answer m o
      (λ p ne. (ne, tt)) (λ f _. cloned S o (ownership S o) refl)
  calls_apart {S} {R} s a (ReleaseOwner o) answer m = by_owner S R s a _ answer m o
      (λ p ne. (ne, tt)) (λ f _. released S o (ownership S o) refl)
  calls_apart {S} {R} s a NewOwner answer m = ⊎_elim
      (λ refused. subst AreDisjoint (sym refused.1) a)
      (λ acts. let new : OwnerName = record { store = S.number; key = S.next } in
      keeps_apart S R s a new (λ p ne. ap names_in (keeps_record NewOwner answer m p tt
      (subst (λ (out : Outcome T). IsOtherOwner out.0 p) (sym acts.2) ne)))
      (subst (λ (out : Outcome T). Becomes S (names_of S new) (names_of out.1 new)) (sym acts.2)
      (emptied (grind (arith, get-insert_here, by_number)))))
      (meets_cases S R NewOwner answer m)
  calls_apart {S} {R} s a call answer m = all_kept S R s a (λ o. ap names_in (keeps_record call answer m o tt tt))

  pub stays_listed : {S R : State T} (call : Action T) (answer : Answer T) → IsSound S
      → Meets S call answer R → AreListedOnce S → AreListedOnce R
  stays_listed call answer s m l = from_lists (calls_apart s (to_lists l) call answer m)

  -- the release of an owner leaves what another has in its list
  pub release_beside : {S R : State T} (o p : OwnerName) (h : Ownership) (answer : Answer T)
      → IsSound S → AreListedOnce S → Meets S (ReleaseOwner o) answer R → o ≢ p
      → ownership S p ≡ Some h → (b : GenerationalPointer) → among h.names (name_of b) ≡ true
      → IsUnchanged S b R
  release_beside {S} {R} o p h answer s l m ne held b there = at (ownership S o) refl
    where
      at : (x : Option Ownership) → ownership S o ≡ x → IsUnchanged S b R
      at None is = left_still b (meets_each S R (ReleaseOwner o) answer (λ out. out.1 ≡ S)
          (λ refused. refl) (λ f new. ap (λ x. (release_owner S o x).1) is) m)
      at (Some k) is = release_leaves S R o answer s m k is b
          (l.apart p o h k (name_of b) (λ e. ne (sym e)) held is there)
