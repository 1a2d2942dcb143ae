-- What each call of the store below is in the machine.
pub mod Common
use Rattle.generational_core.specs.{Machine.Answer, Machine.Answer.Refused as RefusedAnswer}
use Rattle.std.proofs.Common.{map as list_map}
use Rattle.store_cells.specs.Data.{SlotData as slot}
use Rattle.std.specs.FinMap as map
use Rattle.std.specs.FinSet as set
use Rattle.generational_errors.specs.declared.error.Refused.TheVariants as refused
unfoldable pub use Common.*

-- ==== how many owner values the records have, below which key they are, and what is put on their lists

-- names are compared for equality
name_equal : IsEquivalence is_name
unfolding is_name
name_equal = eq_by_cmp_equiv name_total

pub counted_empty : (next : ℕ) → AreOwnersCounted next map.empty
counted_empty next = record { each = λ k. rw (map.get-empty nat_cmp k) tt }

module _ {next : ℕ} {owners : Owners} (counted : AreOwnersCounted next owners) where
  pub counted_more : AreOwnersCounted (next + 1) owners
  counted_more = record { each = λ k. let c = counted.each k in grind arith }

  pub counted_insert : (k : ℕ) (h : Ownership) → IsOwnerCounted next k (Some h)
      → AreOwnersCounted next (map.insert owners k h)
  counted_insert k h one = record {
    each = λ q. let is = map.get-insert nat_cmp_total owners k h q in
        grind (arith, key_same by_number q k, counted.each q);
  }

  pub counted_remove : (k : ℕ) → AreOwnersCounted next (map.remove owners k)
  counted_remove k = record {
    each = λ q. grind (arith, map.get-remove nat_cmp_total owners k q, counted.each q);
  }

  counted_changed : (k : ℕ) (f : Ownership → Ownership)
      → ((h : Ownership) → map.get owners k ≡ Some h → IsOwnerCounted next k (Some h)
      → IsOwnerCounted next k (Some (f h)))
      → AreOwnersCounted next (change owners k f)
  unfolding change
  counted_changed k f keeps = at (map.get owners k) refl
    where
      at : (o : Option Ownership) → map.get owners k ≡ o → AreOwnersCounted next (change_if owners k f o)
      at None is = counted
      at (Some h) is = counted_insert k (f h) (keeps h is (rw is at (counted.each k)))

  pub counted_down : (k : ℕ) → 1 < count_under owners k → AreOwnersCounted next (change owners k one_less)
  counted_down k several = counted_changed k one_less (λ h is c. grind arith)

  -- the records after the listing of a new name are as counted
  pub counted_listed : (o : Option OwnerName) (n : Name)
      → ((k : ℕ) → among (names_under owners k) n ≡ false)
      → AreOwnersCounted next (add_to_list_in owners o n)
  counted_listed None n apart = counted
  counted_listed (Some o) n apart = counted_changed o.key (one_listed n) (λ h is c.
      (c.0, c.1, c.2, IsDistinct-push name_equal h.names n c.3 (rw is at (apart o.key))))

module _ {next : ℕ} {owners : Owners} (counted : AreOwnersCounted next owners) where
  pub counted_new : (h : Ownership) → h.count ≡ 1 → h.names ≡ []
      → AreOwnersCounted (next + 1) (map.insert owners next h)
  unfolding IsDistinct
  counted_new h one none = counted_insert (counted_more counted) next h (grind arith)

  pub counted_up : (k : ℕ) → AreOwnersCounted (next + 1) (change owners k one_more)
  counted_up k = counted_changed (counted_more counted) k one_more (λ h is c.
      let old = rw is at (counted.each k) in grind arith)

-- what is found of an owner is what is under its key
pub record_held : (number : ℕ) (owners : Owners) (o : OwnerName) (h : Ownership)
    → Some h ≡ record_of number owners o → map.get owners o.key ≡ Some h
record_held number owners o h is = grind arith

-- it has no more owner values than tickets were issued
pub counted_within : {next : ℕ} {owners : Owners} → AreOwnersCounted next owners → (number : ℕ)
    (o : OwnerName) (h : Ownership) → Some h ≡ record_of number owners o → h.count ≤ next
counted_within {next} {owners} counted number o h is =
    let each = rw (record_held number owners o h is) at (counted.each o.key) in each.1

-- ==== the calls on the cells of a store, as steps of the machine

-- the name in an id of the store with this number
abbrev pub own_of : ℕ → GenerationalBoxId → Option Name
own_of number id = cond (nat_eq id.store number) (Some (name_in id)) None

-- the guard of a ticket at a cell of the store with this number
abbrev pub guard_at : ℕ → Name → ℕ → Guard
guard_at number n t = record { store = number; cell = n; ticket = t }

-- the states of equal values of a store
pub state_is : {T : Type 0} {s r : SoundState T} → s ≡ r → s.state ≡ r.state
state_is same = ap (λ s. s.state) same

-- what one proof that a state is sound and bounded implies, any such proof implies
pub both : {T A : Type 0} {S : State T} (f : IsSound S → IsBounded S → A) {s r : IsSound S}
    {b c : IsBounded S} → f s b ≡ f r c
both f {s} {r} {b} {c} = λ i. f (IsSound-prop _ s r i) (IsBounded-prop _ b c i)

-- tickets are looked for in either order
any_ticket : (t : ℕ) (rs : List Borrow)
    → list_any (nat_eq t) (list_map (λ r. r.ticket) rs) ≡ list_any (λ r. nat_eq r.ticket t) rs
any_ticket t [] = refl
any_ticket t (r ∷ rs) = grind (arith, nat_eq_equiv.symm, any_ticket t rs)

module _ {T : Type 0} where
  -- a call of a sound and bounded state leaves it so
  pub kept : (S : SoundState T) (call : Action T) (answer : Answer T) {R : State T}
      → Meets S.state call answer R → IsSound R × (IsBounded R × Unit {0})
  kept S call answer = meets_kept _ _ call answer S.sound S.bounded

  -- borrows that are in the way, or no memory for the list of their locations
  pub hindered_step : (S : State T) (call : Action T) (e : Refused BorrowMutError)
      (t : Option BorrowRefusal) (out : Outcome T) → act S call no_names ≡ unless t S out
      → FoundBorrowed t (Err e) → Meets S call (end_refused e) S
  unfolding may_lack
  hindered_step S call e t out is found = grind arith

  -- a box of this store reaches what its name does
  pub reach_own : (S : State T) (b : GenerationalPointer) {n : Name} → Some n ≡ own_of S.number b.id
      → reach S b ≡ reached S n
  unfolding reach
  reach_own S b own = grind (arith, nat_tests)

  -- what is in the way of a write
  write_own : (S : State T) (b : GenerationalPointer) {n : Name} → Some n ≡ own_of S.number b.id
      → refusal_to_write S b ≡ refusal_to_write_at S n b.created_at
  unfolding reach refusal_to_write
  write_own S b own = grind (arith, nat_tests)

  pub write_hindered : (S : State T) (b : GenerationalPointer) (l : Location) {n : Name}
      → Some n ≡ own_of S.number b.id → (e : Refused BorrowMutError)
      → FoundBorrowed (refusal_to_write_at S n b.created_at) (Err e)
      → Meets S (Write b l) (end_refused e) S
  write_hindered S b l own e found = hindered_step S (Write b l) e (refusal_to_write S b)
      (write_at S l (reach S b) (content_of (cell_at S (reach S b)))) refl
      (subst (λ t. FoundBorrowed t (Err e)) (sym (write_own S b own)) found)

  module _ (S : State T) (sound : IsSound S) where
    -- in a sound state there is a content at what a name refers to, and at what a box refers to
    pub led : (n m : Name) → reached S n ≡ Some m → is_some (content_at S m) ≡ true
    led n m to = grind (arith, sound.targets)

    pub reaches : (b : GenerationalPointer) (m : Name) → reach S b ≡ Some m
        → is_some (content_at S m) ≡ true
    unfolding reach
    reaches b m to = grind (arith, sound.targets)

    -- the readers' tickets are below the next one
    pub readers_below : (m : Name) → AreTicketsBelow S.next (readers_of (content_at S m))
    readers_below m t stands = let below = sound.below m t in grind (arith, any_ticket)

  -- the content that is at a name, put there again, changes nothing
  filled_own : (S : State T) (n : Name) (c d : Content T) → content_at S n ≡ Some c → d ≡ c
      → change S.cells n (refill d) ≡ S.cells
  unfolding change
  filled_own S n c d is same = rw same (grind (arith, insert_there by_name S.cells n))

  -- a reader's release returns whether the borrow was active; X represents the slots of a store, and S
  -- the store
  pub released : (X : State T) {S : State T} {number next : ℕ} {owners : Owners}
      → with_records X number owners next ≡ S → (id : GenerationalBoxId) (t : ℕ) {n : Name}
      → Some n ≡ own_of S.number id → (known : Bool) → known ≡ has_reader (content_at X n) t
      → Meets S (ReleaseReader (guard_at id.store (name_in id) t)) (Flag known)
      (with_records (change_content X n (less_read t)) number owners next)
  released X {S} {number} {next} {owners} view id t {n} own known is =
      inl (no_names, tt, at (content_at X n) refl known is)
    where
      at : (o : Option (Content T)) → content_at X n ≡ o → (known : Bool) → known ≡ has_reader o t
          → (Flag known, with_records (change_content X n (less_read t)) number owners next)
          ≡ limit_tickets S (act S (ReleaseReader (guard_at id.store (name_in id) t)) no_names)
      at None there known is = grind (arith, nat_tests)
      at (Some (Here v rs)) there true is = grind (arith, nat_tests)
      at (Some (Here v rs)) there false is =
          let same = filled_own X n _ _ there (ap (Here v) (none_left t rs (sym is))) in
          grind (arith, nat_tests)
      at (Some (Lent w)) there known is =
          let same = filled_own X n _ _ there refl in grind (arith, nat_tests)

-- ==== the rows of a store, of which the slots' come first, are read back

module _ {T : Type 0} (S : State T) where
  -- before any row is read
  abbrev unread : Plain
  unread = record (fresh S.number 1 S.next) { peak = S.peak }

  pub rows_read_back : ReadSlots S.number S → ReadBack S (rows_of S)
  rows_read_back slots first =
      read_append (all_slot_rows S.number S) (owner_rows S.number (map.entries S.owners)) unread
      ∙ ap (λ P. read_rows P (owner_rows S.number (map.entries S.owners)))
      (slots unread first refl refl)
      ∙ all_owners_read (record unread { cells = bare_cells S.cells; given = S.given }) S.number
      S.owners refl
      ∙ ap (λ n. record (plain S) { start = n }) (sym first)

-- as they were made
pub made_read_back : {T : Type 0} (S : State T) (rows : List BaseRow) → rows ≡ rows_of S
    → ReadSlots S.number S → ReadBack S rows
made_read_back S rows made slots = rw made (rows_read_back S slots)

-- ==== the makings of cells, as steps of the machine

module _ {T : Type 0} where
  -- no owner's list has a name that was never issued
  unlisted : (S : State T) → IsSound S → (n : Name) → set.contains S.given n ≡ false → (k : ℕ)
      → among (names_under S.owners k) n ≡ false
  unlisted S sound n fresh k = let owned = sound.owned k in grind (arith, all)
    where
      all : (ns : List Name) → AllByRecursion (IsBoxed S) ns → among ns n ≡ false
      all [] boxed = refl
      all (m ∷ ns) boxed = grind (arith, name_apart, all ns boxed.1)

  -- the records after a making are as counted
  pub made_counted : (S : State T) → IsSound S → AreOwnersCounted S.next S.owners → (n : Name)
      → set.contains S.given n ≡ false → (o : Option OwnerName)
      → AreOwnersCounted S.next (add_to_list_in S.owners o n)
  made_counted S sound counted n fresh o = counted_listed counted o n (unlisted S sound n fresh)

  -- each reference still names a shared cell after another was made
  pub pair_targets : (cells : NameMap (Cell T)) (c : Content T) (l : Location) (m : Name)
      → HasTargets cells → HasTargets (map.insert cells m (Shared c l))
  pair_targets cells c l m old n k j at =
      grind (arith, get-insert_here, get-insert_apart, by_name, name_cases)

  -- s represents the slots of a store, and S the store
  module _ (s : SlotsState T) {S : State T} {number next : ℕ} {owners : Owners}
      (view : with_records s.state number owners next ≡ S) (o : Option OwnerName) where
    -- a value of a box's own
    pub value_made : {v : T} {l : Location} {t : SlotsState T} {mid after : Owners} {n : Name}
        → IsMade s t (Some (Value (Here v []) l)) n → permits number owners o ≡ true → mid ≡ owners
        → after ≡ add_to_list_in mid o n
        → Meets S (Make o v l) (Made (box_of number n l)) (with_records t.state number after next)
    value_made {n = n} made known same listed =
        let new = made.fits in
        rw (← view) (inl (record { first = n; second = n }, search arith, grind (arith, nat_tests)))

    -- a shared value, and then a reference to it
    pub shared_made : {q t u : SlotsState T} → q.state ≡ s.state → {v : T} {l : Location} {m n : Name}
        {mid after : Owners} {d : SlotData T} → IsMade q t (Some (Shared (Here v []) l)) m
        → d ≡ slot.Reference m.slot m.generation → IsMade t u (cell_of (kept_data [] l d)) n
        → permits number owners o ≡ true → mid ≡ owners → after ≡ add_to_list_in mid o n
        → Meets S (MakeShared o v l) (Made (box_of number n l)) (with_records u.state number after next)
    shared_made before {v} {l} {m} {n} first content second known same listed =
        let made = rw content at second in
        let new : IsNew s.state m = rw before at first.fits in
        let newer : IsNew (add_cell s.state m (Shared (Here v []) l)) n =
        rw (first.added, before) at made.fits in
        rw (← view) (inl (
          record { first = m; second = n },
          (search arith, search arith),
          grind (arith, nat_tests),
        ))

    -- an owner that isn't known, or no memory for its list
    pub value_refused : (v : T) (l : Location) (e : StoreError) → IsRefusal number owners o e
        → Meets S (Make o v l) (RefusedAnswer e) S
    unfolding may_lack
    value_refused v l UnknownOwner is = inl (no_names, tt, grind (arith, nat_tests))
    value_refused v l e is = inr (grind (arith, nat_tests))

    pub shared_refused : (v : T) (l : Location) (e : StoreError) → IsRefusal number owners o e
        → Meets S (MakeShared o v l) (RefusedAnswer e) S
    unfolding may_lack
    shared_refused v l UnknownOwner is = inl (no_names, tt, grind (arith, nat_tests))
    shared_refused v l e is = inr (grind (arith, nat_tests))

    pub shared_full : (v : T) (l : Location) → permits number owners o ≡ true → free s.state < 2
        → Meets S (MakeShared o v l) (RefusedAnswer OutOfMemory) S
    unfolding may_lack
    shared_full v l known few = rw (← view) (inr (grind (arith, nat_tests)))

    -- references to a shared value that a box reaches, and that isn't lent
    module _ (inner : GenerationalPointer) {k m : Name} (own : Some k ≡ own_of S.number inner.id)
        (found : (reached s.state k ≡ Some m) × (read_refusal (content_at s.state m) ≡ None)
        × (is_shared (map.get s.state.cells m) ≡ true)) where
      pub reference_made : {l : Location} {t : SlotsState T} {mid after : Owners} {n : Name} {d : SlotData T}
          → location_of (map.get s.state.cells m) ≡ Some l → d ≡ slot.Reference m.slot m.generation
          → IsMade s t (cell_of (kept_data [] l d)) n → permits number owners o ≡ true → mid ≡ owners
          → after ≡ add_to_list_in mid o n
          → Meets S (Refer o inner) (Made (box_of number n l)) (with_records t.state number after next)
      unfolding reach refusal_to_read
      reference_made {n = n} at content second known same listed =
          let made = rw content at second in
          let new = made.fits in
          inl (record { first = n; second = n }, rw (← view) (search arith), grind (arith, nat_tests))

      pub reference_refused : (e : StoreError) → IsRefusal number owners o e
          → Meets S (Refer o inner) (RefusedAnswer e) S
      unfolding may_lack reach refusal_to_read
      reference_refused UnknownOwner is = inl (no_names, tt, grind (arith, nat_tests))
      reference_refused e is = inr (grind (arith, nat_tests))

-- ==== the ends of names, and which calls no borrow hinders, as steps of the machine

module _ {T : Type 0} where
  -- X represents the slots of a store, and S the store
  module _ (X : State T) {S : State T} {number next : ℕ} {owners : Owners}
      (view : with_records X number owners next ≡ S) (b : GenerationalPointer) {n : Name}
      (own : Some n ≡ own_of S.number b.id) where
    -- the name of a box ends unless a borrow is in the way
    pub end_own : (Y : State T) (result : Result (Unit {0}) (Refused BorrowMutError))
        → IsEndReply X Y (n ∷ []) result
        → Meets S (End b) (end_answer result) (with_records Y number owners next)
    unfolding hindrance_to may_lack
    end_own Y (Ok u) ended = inl (no_names, tt, grind (arith, nat_tests))
    end_own Y (Err (refused.Borrow e)) ended = inl (no_names, tt, grind (arith, nat_tests))
    end_own Y (Err (refused.Store e)) ended = inr (grind (arith, nat_tests))

    -- and a value is returned when its box is removed
    pub taken_ends : (Y : State T) (result : Option T)
        → IfSome result (λ v. hindrance_to X (n ∷ []) ≡ None)
        → IfSome result (λ v. Y ≡ close X (n ∷ []))
        → IfSome result (λ v. Meets S (End b) Done (with_records Y number owners next))
    taken_ends Y (Some v) free ended = end_own Y (Ok tt) (free, ended)
    taken_ends Y None free ended = tt

    pub taken_kept : IsSound S → IsBounded S → (Y : State T) (result : Option T)
        → IfSome result (λ v. hindrance_to X (n ∷ []) ≡ None)
        → IfSome result (λ v. Y ≡ close X (n ∷ [])) → IfNone result (Y ≡ X)
        → IsSound (with_records Y number owners next)
        × (IsBounded (with_records Y number owners next) × Unit {0})
    taken_kept sound bounded Y (Some v) free ended none =
        meets_kept _ _ (End b) Done sound bounded (end_own Y (Ok tt) (free, ended))
    taken_kept sound bounded Y None free ended none = rw (none, view) (sound, (bounded, tt))

  -- what hinders the end of names isn't that they are gone
  first_tells : (cells left : NameMap (Cell T)) (names : List Name)
      → is_none (first_hindrance cells left names) ≡ not (tells_of_borrow (first_hindrance cells left names))
  first_tells cells left [] = refl
  first_tells cells left (n ∷ rest) = grind (arith, first_tells cells left rest)

  pub end_tells : (S : State T) (names : List Name)
      → is_none (hindrance_to S names) ≡ not (tells_of_borrow (hindrance_to S names))
  unfolding hindrance_to
  end_tells S names = first_tells S.cells (cells_after S.cells names) names

-- ==== the release of an owner's last value, as a step of the machine

-- a borrow is in the way
pub last_refused : {T : Type 0} (S : State T) (o : OwnerName) (h : Ownership) (names : List Name)
    (e : Refused BorrowMutError) → Some h ≡ record_of S.number S.owners o → h.count ≤ 1
    → names ≡ h.names → FoundBorrowed (hindrance_to S names) (Err e)
    → Meets S (ReleaseOwner o) (end_refused e) S
last_refused S o h names e found few are is =
    hindered_step S (ReleaseOwner o) e (hindrance_to S names)
    (Done, record (close S names) { owners = map.remove S.owners o.key })
    (grind (arith, nat_tests)) is

-- ==== the change of what a reference names, as a step of the machine

module _ {T : Type 0} (X : State T) {S : State T} {number next : ℕ} {owners : Owners}
    (view : with_records X number owners next ≡ S) (a b : GenerationalPointer) where
  abbrev V : State T
  V = with_records X number owners next

  -- the turn of the slots is that of a call which is the machine's
  turned : (call : Action T) (Y : State T) (result : Result (Unit {0}) (Refused BorrowMutError))
      (same : Bool) (t : Option BorrowRefusal) (left : NameMap (Cell T))
      → act V call no_names ≡ cond same (Done, V) (unless t V (Done, record V { cells = left }))
      → IsTurned X Y result (cond same (Done, X) (unless t X (Done, record X { cells = left })))
      → Meets V call (end_answer result) (with_records Y number owners next)
  unfolding may_lack
  turned call Y result same t left acts turning = grind arith

  -- the same holds of an error that says where something was made
  told : (call : Action T) (Y : State T) (result : Result (Unit {0}) (Refused BorrowMutError))
      (t : BorrowRefusal) → act V call no_names ≡ (BorrowRefused t, V)
      → IsTurned X Y result (BorrowRefused t, X)
      → Meets V call (end_answer result) (with_records Y number owners next)
  unfolding may_lack
  told call Y result t acts turning = grind arith

  pub pointed : {k n m : Name} → false ≡ has_same_id a b → Some k ≡ own_of S.number b.id
      → reached X k ≡ Some m → read_refusal (content_at X m) ≡ None
      → Some n ≡ own_of S.number a.id → (Y : State T)
      (result : Result (Unit {0}) (Refused BorrowMutError))
      → IsTurned X Y result (point X (box_of 0 n a.created_at) b (map.get X.cells n) (Some m)
      (map.get X.cells m))
      → Meets S (Point a b) (end_answer result) (with_records Y number owners next)
  unfolding reach refusal_to_read
  pointed {k} {n} {m} other found to free at Y result turning =
      let own : n ≡ name_of a = grind (arith, nat_tests) in
      let acts : act V (Point a b) no_names ≡ point V a b (map.get X.cells n) (Some m) (map.get X.cells m)
      = grind (arith, nat_tests) in
      rw (← view) (by own (map.get X.cells n) (map.get X.cells m) acts turning)
    where
      by : n ≡ name_of a → (cell target : Option (Cell T))
          → act V (Point a b) no_names ≡ point V a b cell (Some m) target
          → IsTurned X Y result (point X (box_of 0 n a.created_at) b cell (Some m) target)
          → Meets V (Point a b) (end_answer result) (with_records Y number owners next)
      by own (Some (Ref old k)) (Some (Shared c l)) acts turning =
          let left = sweep (map.insert X.cells (name_of a) (Ref m k)) in
          turned (Point a b) Y result (is_name old m) (hindrance_at X.cells left old) left acts
          (rw own at turning)
      by own _ _ acts turning = told (Point a b) Y result _ acts turning
