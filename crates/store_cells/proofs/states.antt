-- Slots, and what a write to one leaves.
pub mod Entries
use Rattle.store_cells.proofs.states.Entries.Notes.{begins, ends, stays}
use Rattle.store_cells.specs.Data.{SlotData as slot}
use Rattle.std.specs.FinSet as set
use Rattle.store_cells.specs.declared.latest.Noted.TheVariants as noted
use Rattle.store_cells.specs.declared.entry.StorageEntryData.TheVariants as content
unfoldable pub use Entries.*

-- ==== what is known of a call's result, and of a content that no borrow keeps from a read or a
-- write

pub ok_then : {A E : Type 0} (r : Result A E) {P Q : Type 0} → (P → Q) → OnOk r P → OnOk r Q
ok_then r f p = grind arith

pub err_from : {A E : Type 0} (r : Result A E) {P Q : Type 0} → (P → Q) → OnErr r P → OnErr r Q
err_from r f p = grind arith

pub err_then : {A E : Type 0} (r : Result A E) {P : Type 0} → P → OnErr r P
err_then r p = grind arith

module _ {T : Type 0} (c : Content T) where
  -- what no borrow keeps from being written has none
  pub unrefused : write_refusal (Some c) ≡ None → has_no_borrow (Some c) ≡ true
  unrefused free = grind arith

  -- and what no borrow keeps from being read has a value
  pub readable : read_refusal (Some c) ≡ None → is_some (value_of (Some c)) ≡ true
  readable free = grind arith

-- ==== at which indexes of the table the borrows of a store's slots are, and what is left of that when a
-- slot is written

module _ {T : Type 0} where
  pub indexed : {es es' : List (StorageEntry T)} {i : ℕ} {e : StorageEntry T} → IsWritten es es' i e
      → {t t' : Table} → AreIndexed t es → HasListIndex (data_in e.content)
      → ((k : ℕ) → k ≢ i → index_in (slice_get es k) ≢ no_index → IsUsed t' (index_in (slice_get es k)))
      → (index_of (data_in e.content) ≢ no_index → IsUsed t' (index_of (data_in e.content))
      × ((k : ℕ) → k ≢ i → index_in (slice_get es k) ≢ index_of (data_in e.content)))
      → set.len t'.free + how_many has_index es' ≡ length t'.lists → length t'.lists ≤ length es'
      → AreIndexed t' es'
  indexed {es} {es'} {i} w s fits others here counted few = record {
    used = λ k. grind (arith, nat_tests, w.at k, others k);
    apart = λ j k. grind (arith, nat_tests, w.at j, w.at k, s.apart j k);
    listed = λ k. grind (arith, nat_tests, w.at k, s.listed k);
    counted = counted;
    few = few;
  }

  -- a slot with an index has listed readers, if it has readers
  pub has_listed : (d : SlotData T) → index_of d ≢ no_index → HasListIndex d
  has_listed d some = grind arith

  no_index_test : (o : Option (StorageEntry T)) → index_in o ≡ no_index → passes has_index o ≡ false
  no_index_test o none = grind (arith, nat_tests)

  -- a slot without borrows that is written over one without borrows
  pub indexed_free : {t : Table} {es es' : List (StorageEntry T)} {i : ℕ} {e : StorageEntry T} → IsWritten es es' i e
      → AreIndexed t es → is_free (data_in e.content) ≡ true → length es ≤ length es'
      → index_in (slice_get es i) ≡ no_index → AreIndexed t es'
  indexed_free {es = es} {i = i} {e = e} w s free longer before =
      let none = free_none (data_in e.content) free in
      let count = rw (no_index_test (slice_get es i) before, no_index_test (Some e) none) at (w.count has_index) in
      let counted = s.counted in let few = s.few in
      indexed w s (free_listed _ free) (λ k other. s.used k) (λ some. absurd (some none)) (omega arith) (omega arith)

  -- a store without slots
  pub indexed_none : {t : Table} {es : List (StorageEntry T)} → es ≡ [] → t.lists ≡ [] → t.free ≡ set.empty → AreIndexed t es
  indexed_none none empty free = rw none (record {
    used = λ k some. absurd (some refl);
    apart = λ j k some same. absurd (some refl);
    listed = λ k. tt;
    counted = rw (free, empty, set.len-empty nat_cmp) refl;
    few = rw empty (omega arith);
  })

  pub noted_none : {r : LastBorrow} {lists : List (List Borrow)} {es : List (StorageEntry T)} → es ≡ []
      → r.noted ≡ noted.Nobody → AreBorrowsNoted r lists es
  noted_none none nobody = rw none (record { noted = λ is. absurd (cc (ap is_noted nobody)); written = λ k. tt })

-- ==== the table of borrows when a slot is written, and what that leaves of the store

module _ {T : Type 0} {r : LastBorrow} {t : Table} {es : List (StorageEntry T)} {i : ℕ} {e : StorageEntry T}
    (a : IsSlot r t es i e) where
  -- a slot that keeps its index, or has none again
  pub same_step : {e' : StorageEntry T} → index_of (data_in e'.content) ≡ index_of (data_in e.content)
      → HasListIndex (data_in e'.content) → Steps t t es i e'
  same_step {e'} same fits =
      let w = set_written es i e' e a.there in
      let count = rw (a.there, same) at (w.count has_index) in
      let s = a.base.indexed in let long = length-set es i e' in record {
        lists = λ k other. refl;
        indexed = indexed w s fits (λ k other. s.used k) (λ some. (
          rw same (used_here a (rw (← same) some)),
          λ k other is. other (s.apart k i (λ z. some (sym is ∙ z)) (rw a.there (is ∙ same))),
        )) (omega (arith, s.counted)) (omega (arith, s.few));
        rooms = refl;
      }

  pub free_step : is_free (data_in e.content) ≡ true → {e' : StorageEntry T} → is_free (data_in e'.content) ≡ true
      → Steps t t es i e'
  free_step before free = same_step (free_none _ free ∙ sym (free_none _ before)) (free_listed _ free)

  -- the table changes at an index that no other slot has
  step : {t' : Table} {x : ℕ} → Changes t t' x → t'.rooms ≡ t.rooms → x < no_index
      → ((k : ℕ) → k ≢ i → index_in (slice_get es k) ≢ x) → {e' : StorageEntry T} → HasListIndex (data_in e'.content)
      → (index_of (data_in e'.content) ≢ no_index → (index_of (data_in e'.content) ≡ x) × IsUsed t' x)
      → set.len t'.free + bit (has_index e') + length t.lists ≡ set.len t.free + bit (has_index e) + length t'.lists
      → length t'.lists ≤ length es → Steps t t' es i e'
  step c rooms below alone {e'} fits here counts few =
      let w = set_written es i e' e a.there in
      let count = rw a.there at (w.count has_index) in
      let counted = a.base.indexed.counted in let long = length-set es i e' in record {
        lists = λ k other. c.lists (index_in (slice_get es k)) (alone k other);
        indexed = indexed w a.base.indexed fits (λ k other some. used_still c _ (alone k other) (a.base.indexed.used k some))
            (λ some. (rw (here some).0 (here some).1, λ k other. rw (here some).0 (alone k other)))
            (omega arith) (omega arith);
        rooms = rooms;
      }

  module _ (none : index_of (data_in e.content) ≡ no_index) where
    fewer : how_many has_index es < length es
    fewer = fewer_within has_index es i e a.there (rw none refl)

    -- there is room for an index more
    small_left : length t.lists < no_index
    small_left = let less = fewer in omega (arith, a.base.indexed.counted)

    pub room_left : t.free ≡ set.empty → length t.lists < t.rooms
    room_left empty =
        let full : set.len t.free ≡ 0 = rw (empty, set.len-empty nat_cmp) in let less = fewer in omega (arith, a.base.indexed.counted)

    pub open_some : {t' : Table} {x : ℕ} {list : List Borrow} → Opens t t' x list → x ≢ no_index
    open_some o z = let small = small_left in elim o.vacant [ inl v ↦ omega arith | inr v ↦ omega arith ]

    -- which the slot gets
    pub open_step : {t' : Table} {x : ℕ} {list : List Borrow} → Opens t t' x list → t'.rooms ≡ t.rooms
        → {e' : StorageEntry T} → index_of (data_in e'.content) ≡ x → Steps t t' es i e'
    open_step {x = x} o rooms {e'} at =
        let small = small_left in
        let below : x < no_index = elim o.vacant [ inl v ↦ omega arith | inr v ↦ omega arith ] in
        let unused : IsUsed t x → ⊥ = λ u.
        elim o.vacant [ inl v ↦ cc (v.0, u.used) | inr v ↦ omega (arith, u.within, v.1) ] in
        let some = open_some o in
        step (opened o) rooms below (λ k other same. unused (rw same at (a.base.indexed.used k (λ z. some (sym same ∙ z)))))
        (has_listed (data_in e'.content) (rw at some)) (λ _. (at, opened_used o))
        (rw (at, ne_eqb x no_index some, none) (omega (arith, opened_count o)))
        (opened_few o (length es) a.base.indexed.few
        (λ z. omega (arith, a.base.indexed.counted, fewer)))

  -- the slot's index
  module _ {x : ℕ} (is : index_of (data_in e.content) ≡ x) (some : x ≢ no_index) where
    pub used_x : IsUsed t x
    used_x = rw is at (used_here a (rw is some))

    own_index : (k : ℕ) → k ≢ i → index_in (slice_get es k) ≢ x
    own_index k other same = grind (arith, nat_tests, a.base.indexed.apart k i, a.there)

    -- another list is there
    pub list_step : {t' : Table} {left : List Borrow} → left ≢ [] → t' ≡ record t { lists = slice_set t.lists x left }
        → {e' : StorageEntry T} → index_of (data_in e'.content) ≡ x → Steps t t' es i e'
    list_step {left = left} left_some now {e'} at = rw now (
        let used = used_x in let long = length-set t.lists x left in let few = a.base.indexed.few in
        step (list_changed t _ x left refl) refl (omega arith) own_index (has_listed (data_in e'.content) (rw at some))
        (λ _. (at, list_used used left_some)) (rw (at, is) (omega arith)) (omega arith))

    -- it is freed
    pub close_step : {t' : Table} → IsClosed t t' x → {e' : StorageEntry T} → is_free (data_in e'.content) ≡ true
        → Steps t t' es i e'
    close_step c {e'} free =
        let none = free_none _ free in
        let used = used_x in let more = closed_count c used.used in let few = a.base.indexed.few in
        step (closed c) c.rooms (omega arith) own_index (free_listed _ free) (λ z. absurd (z none))
        (rw (none, is, ne_eqb x no_index some) (omega (arith, c.same))) (omega (arith, c.same))

  -- the slot's index is freed, if it has one
  pub give_step : {t' : Table} {x : ℕ} → index_of (data_in e.content) ≡ x → (x ≡ no_index → t' ≡ t)
      → (x ≢ no_index → IsClosed t t' x) → {e' : StorageEntry T} → is_free (data_in e'.content) ≡ true → Steps t t' es i e'
  give_step {x = x} is none some free = ⊎_elim
      (λ last. rw (none last) (same_step (free_none _ free ∙ sym (is ∙ last)) (free_listed _ free)))
      (λ index. close_step is index (some index) free) (cases_eq x no_index)

  -- a reader is removed from a value
  module _ {kd : CellKind} {x : ℕ} {v : T} (is : data_in e.content ≡ slot.Read kd x v) where
    pub release_step : {t' : Table} (y : ℕ) (left : List Borrow) → Releases t t' x y left → {e' : StorageEntry T}
        → data_in e'.content ≡ unread_data (slot.Read kd y v) → Steps t t' es i e'
    release_step y [] r e'_is =
        close_step (rw is refl) (has_place a is) r.1 (rw (e'_is, eq-eqb y no_index r.0) refl)
    release_step y (b ∷ bs) r e'_is =
        let some = has_place a is in
        list_step (rw is refl) some (λ z. none_some b bs z) r.1
        (rw (e'_is, ne_eqb y no_index (λ z. some (sym r.0 ∙ z))) r.0)

    -- the model of its borrows afterwards
    pub release_seen : (r' : LastBorrow) (t' : Table) (y : ℕ) (left : List Borrow) → is_noted_at r' i ≡ false
        → Releases t t' x y left → (l : Location)
        → kept_data (borrows_of r' t'.lists i (index_of (unread_data (slot.Read kd y v)))) l (unread_data (slot.Read kd y v))
        ≡ Live kd (Here v left) l
    release_seen r' t' y [] away r l = rw (eq-eqb y no_index r.0, away)
    release_seen r' t' y (b ∷ bs) away r l =
        let set = get_or-set_same t.lists x (b ∷ bs) [] (used_at a is).within in
        grind (arith, nat_tests, has_place a is)

-- ---- the noted borrow is listed

-- the slot whose borrow is noted, if it is read
pub noted_is : {T : Type 0} {r : LastBorrow} {t : Table} {es : List (StorageEntry T)} → IsListable r t es
    → is_noted r.noted ≡ true → {e : StorageEntry T} → e ≡ get_or es r.slot e
    → (is_noted_at r r.slot ≡ true) × IsSlot r t es r.slot e
noted_is {r = r} {t = t} {es = es} base some {e} is =
    let on : is_noted_at r r.slot ≡ true = rw (some, eq-eqb r.slot r.slot refl) refl in
    let x = noted_there r t.lists r.slot _ base.noted.noted on in
    let there = slice_get_read es (length es) r.slot e refl (slice_get_within es r.slot x.0 x.1)
    is in
    (on, record { base = base; there = there })

pub listed_after : {T : Type 0} {r : LastBorrow} {t t' : Table} {es : List (StorageEntry T)} {i : ℕ} {e e' : StorageEntry T}
    → IsSlot r t es i e → is_noted_at r i ≡ true → Steps t t' es i e' → HasWriter (cleared r) i (data_in e'.content)
    → ((d : EntryDetails) → entry_of (cleared r) t'.lists i e' d ≡ entry_of r t.lists i e d)
    → IsListed r (cleared r) t t' es (slice_set es i e')
listed_after {r = r} {t = t} {es = es} {i = i} {e = e} {e' = e'} a on s written same = record {
  slots = λ ds made.
      let d = there_is ds i (omega (arith, made, slice_get_within es i e a.there)) in
      let at : IsAt r t es ds (record { slots = entries_of r t.lists es ds; rooms = 0 }) (length es) (length es) (length es) i e d.0 =
      record { at = a; made = d.1; holds = (a.base.indexed, a.base.noted, made, omega (arith, a.base)); view = refl } in
      (wrote_cell at s (ends refl on) written (λ e. e) (same d.0)).view ∙ rw (seen at) (set-own _ i _ (seen at));
  indexed = s.indexed;
  noted = noted_after (set_written es i e' e a.there) a.base.noted s.lists (ends refl on) written;
  rooms = s.rooms;
  same = length-set es i e';
}

module _ {T : Type 0} {r : LastBorrow} {t : Table} {es : List (StorageEntry T)} {i : ℕ} {e : StorageEntry T}
    (a : IsSlot r t es i e) (on : is_noted_at r i ≡ true) where
  -- it gets an index
  pub listed_opened : {t' : Table} {q : ℕ} → index_of (data_in e.content) ≡ no_index → Opens t t' q (r.borrow ∷ [])
      → t'.rooms ≡ t.rooms → (e' : StorageEntry T) → index_of (data_in e'.content) ≡ q
      → ((d : EntryDetails) → entry_with (r.borrow ∷ []) e' d ≡ entry_with (r.borrow ∷ []) e d)
      → IsListed r (cleared r) t t' es (slice_set es i e')
  listed_opened {q = q} none o rooms e' at same =
      let some = open_some a none o in
      let put : index_of (data_in e'.content) ≢ no_index = rw at some in
      listed_after a on (open_step a none o rooms at) (grind arith)
      (λ d. rw (at, ne_eqb q no_index some, opened_list o, none, on) (same d))

  -- it has one
  pub listed_there : index_of (data_in e.content) ≢ no_index → IsListed r (cleared r) t t es (slice_set es i e)
  listed_there some = listed_after a on (same_step a refl (has_listed _ some)) (grind arith)
      (λ d. rw (ne_eqb (index_of (data_in e.content)) no_index some) refl)

-- ---- writes that leave the table

module _ {T : Type 0} {r : LastBorrow} {t : Table} {es : List (StorageEntry T)} {ds : List EntryDetails}
    {now : EntryList T} {room x y i : ℕ} {e : StorageEntry T} {d : EntryDetails}
    (a : IsAt r t es ds now room x y i e d) where
  -- a cell without borrows is written over one without borrows
  module _ (q : (is_noted_at r i ≡ false) × (is_free (data_in e.content) ≡ true)) (e' : StorageEntry T)
      (free : is_free (data_in e'.content) ≡ true) where
    wrote_free : (f : Entry T → Entry T) → entry_with [] e' d ≡ f (entry_with [] e d)
        → Writes r t (slice_set es i e') ds room x y (change_entry now.slots i f)
    wrote_free f becomes =
        wrote_cell a (free_step a.at q.1 free) (stays refl q.0) (free_written _ free r i) f
        (rw (free_none _ free, free_none _ q.1, q.0) becomes)

    pub free_holds : Holds r t (slice_set es i e') ds room x y
    free_holds = (wrote_free (λ z. entry_with [] e' d) refl).holds

    pub free_view : (f : Entry T → Entry T) → ((d : EntryDetails) → entry_with [] e' d ≡ f (entry_with [] e d))
        → entries_of r t.lists (slice_set es i e') ds ≡ change_entry now.slots i f
    free_view f becomes = (wrote_free f (becomes d)).view

  -- a reference is changed
  pub redirected : {k : StorageEntryData T} {q g : ℕ}
      → IfSome (slice_get now.slots i) (λ e. is_some (target_name_in (cell_of e.kept)) ≡ true)
      → k ≡ content.Reference q g → Rewrites a r t k (referring (record { slot = q; generation = g }))
  redirected refers is =
      let has = rw (seen a) at refers in
      let own : (q : ℕ) × (g : ℕ) × (data_in e.content ≡ slot.Reference q g) = grind arith in
      wrote_free (quiet a (rw own.2 refl)) _ (rw is refl) _ (rw (is, own.2) refl)

  -- a cell without borrows is put where there was none
  pub refilled : IfSome (slice_get now.slots i) (λ e. e.kept ≡ Empty) → (g : ℕ) (k : StorageEntryData T) (l : Location)
      → IsUnborrowed (data_in k)
      → Writes r t (slice_set es i (record { generation = g; content = k }))
      (slice_set ds i (record { created_at = l; references = 0 })) room x y
      (slice_set now.slots i (record { generation = g; kept = kept_data [] l (data_in k); references = 0 }))
  refilled empty g k l unborrowed =
      let none : write_refusal (content_in (entry_of r t.lists i e d).kept) ≡ None =
      ap (λ k. write_refusal (content_in k)) (rw (seen a) at empty) in
      let q = quiet a none in let free = unborrowed_free (data_in k) unborrowed in
      rw (free_none _ free, q.0) at (wrote a (record { created_at = l; references = 0 })
      (free_step a.at q.1 {e' = record { generation = g; content = k }} free) (stays refl q.0) (free_written _ free r i))

  -- a cell ends with its borrows
  pub ended : {r' : LastBorrow} {t' : Table} {q : ℕ} → r' ≡ cond (is_noted_at r i) (cleared r) r
      → index_of (data_in e.content) ≡ q → (q ≡ no_index → t' ≡ t) → (q ≢ no_index → IsClosed t t' q)
      → Rewrites a r' t' content.Empty (λ k. Empty)
  ended {r'} {t'} forgets is none some = wrote_cell a (give_step a.at is none some refl) notes tt _ refl
    where
      notes : Notes r r' t'.lists i (record e { content = content.Empty })
      notes = elim (cases_Bool (is_noted_at r i)) [
        | inl on ↦ ends (forgets ∙ rw on refl) on
        | inr off ↦ stays (forgets ∙ rw off refl) off
      ]

  -- the noted reader ends
  pub read_ended : (n : ℕ) → (is_reader r.noted && nat_eq r.slot i && nat_eq r.borrow.ticket n) ≡ true
      → is_some (unread_in (data_in e.content)) ≡ true
      → IfSome (slice_get now.slots i) (λ e. true ≡ has_reader (content_in e.kept) n)
      × Reborrows a (cleared r) t (without_reader_in n)
  read_ended n reads unread =
      let is = reads_at r i n reads in
      let own : (kd : CellKind) × (v : T) × (data_in e.content ≡ slot.Data kd v) = grind arith in (
        rw (seen a, own.2, is.0, eq-eqb r.borrow.ticket n is.1) refl,
        borrowed a (same_step a.at refl (rw own.2 tt)) (ends refl is.0) (rw own.2 tt) _
            (rw (own.2, is.0, eq-eqb r.borrow.ticket n is.1) refl),
      )

  -- the noted writer ends
  pub write_ended : (n : ℕ) (v : T) (k : StorageEntryData T)
      → (is_writer r.noted && nat_eq r.slot i && nat_eq r.borrow.ticket n) ≡ true
      → data_in k ≡ full_data v (data_in e.content) → Rewrites a (cleared r) t k (with_value v)
  write_ended n v k writes back =
      let is = writes_at r i n writes in
      let own = (noted_lent a.at is.0 is.1).1 in
      wrote_cell a (same_step a.at (rw (back, own) refl) (rw (back, own) tt)) (ends refl is.0) (rw (back, own) tt) _
      (rw (back, own, is.0) refl)

  -- ---- if no borrow is noted

  module _ (nobody : is_noted r.noted ≡ false) where
    away : is_noted_at r i ≡ false
    away = rw nobody refl

    -- a listed reader ends
    pub released : {kd : CellKind} {q : ℕ} {v : T} → data_in e.content ≡ slot.Read kd q v
        → (p n : ℕ) {t' : Table} (k : StorageEntryData T)
        → Releases t t' q p (filter (λ b. not (nat_eq b.ticket n)) (list_at t.lists q))
        → data_in k ≡ unread_data (slot.Read kd p v) → Rewrites a r t' k (without_reader_in n)
    released {kd} {q} {v} is p n k left same =
        wrote_cell a (release_step a.at is p _ left same) (stays refl away) (rw same (grind arith))
        _
        (rw (same, release_seen a.at is r _ p _ away left d.created_at, is, ne_eqb q no_index (has_place a.at is)) refl)

    -- if no reader is listed, there is none, and none ends
    pub unread : NotRead (data_in e.content) → (n : ℕ)
        → IfSome (slice_get now.slots i) (λ e. false ≡ has_reader (content_in e.kept) n)
        × (entries_of r t.lists es ds ≡ change_entry now.slots i (λ e. record e { kept = without_reader_in n e.kept }))
    unread none n =
        let own : (entry_of r t.lists i e d).kept ≡ without_reader_in n
        (entry_of r t.lists i e d).kept =
        grind (arith, away, none) in rw (seen a) (
          grind (arith, away, none),
          a.view ∙ sym (rw (← own) (set-own now.slots i _ (seen a))),
        )

    -- a listed writer ends
    pub written_back : {kd : CellKind} {q : ℕ} {w : Borrow} → data_in e.content ≡ slot.Lent kd q → q ≢ no_index
        → slice_get (list_at t.lists q) 0 ≡ Some w → {t' : Table} → IsClosed t t' q → (v : T) (k : StorageEntryData T)
        → data_in k ≡ slot.Data kd v → Rewrites a r t' k (with_value v)
    written_back is some first gone v k back =
        let was = lent_seen a.at is (λ z. absurd (some z)) (λ z. first) d.created_at in
        wrote_cell a (close_step a.at (rw is refl) some gone (rw back refl)) (stays refl away) (rw back tt) _
        (rw (was, back, away) refl)

    module _ (g : ℕ) (free : IsAlone g (slice_get now.slots i)) where
      pub lone : (is_noted_at r i ≡ false) × ((kd : CellKind) × (v : T) × (data_in e.content ≡ slot.Data kd v))
      lone = alone a (rw (seen a) at free).1

      -- the value is lent to a writer that is noted
      pub lent_to : (k : StorageEntryData T) → data_in k ≡ lent_data (data_in e.content) → (w : Borrow)
          → Rewrites a (record { noted = noted.Writer; slot = i; generation = g; borrow = w }) t k (lend_to w)
      lent_to k lends w =
          let own = lone.1.2 in
          wrote_cell a (same_step a.at (rw (lends, own) refl) (rw (lends, own) tt))
          (begins nobody refl ((rw (seen a) at free).0, rw (lends, own) refl))
          (rw (lends, own) (λ z. rw (eq-eqb i i refl) refl)) _ (rw (lends, own, eq-eqb i i refl) refl)

      pub value_there : {v : T} → unread_in (data_in e.content) ≡ Some v
          → IfSome (slice_get now.slots i) (λ e. content_in e.kept ≡ Some (Here v []))
      value_there value = let same = rw lone.1.2 at value in rw (seen a, lone.1.2, away) cc

-- ---- a reader begins at a value that isn't lent

module _ {T : Type 0} {r : LastBorrow} {t : Table} {es : List (StorageEntry T)} {ds : List EntryDetails}
    {now : EntryList T} {room x y i : ℕ} {e : StorageEntry T} {d : EntryDetails}
    (a : IsAt r t es ds now room x y i e d) (g : ℕ) (there : IsReadable g (slice_get now.slots i)) where
  readable_here : ((kd : CellKind) × (v : T) × (data_in e.content ≡ slot.Data kd v))
      ⊎ ((kd : CellKind) × (q : ℕ) × (v : T) × (data_in e.content ≡ slot.Read kd q v))
  readable_here = let has = (rw (seen a) at there).1 in grind arith

  -- its ticket is beyond those of the listed readers
  pub listed_below : {n : ℕ} → IfSome (slice_get now.slots i) (λ e. AreTicketsBelow n (readers_of (content_in e.kept)))
      → index_of (data_in e.content) ≢ no_index → AreTicketsBelow n (list_at t.lists (index_of (data_in e.content)))
  listed_below h some = elim readable_here [
    | inl own ↦ absurd (some (rw own.2 refl))
    | inr own ↦ rw own.3 (rw (seen a, own.3, ne_eqb own.1 no_index (has_place a.at own.3)) at h)
  ]

  pub begun : is_noted r.noted ≡ false → (b : Borrow) {t' : Table} → t' ≡ listed_beside b (index_of (data_in e.content)) t
      → Reborrows a (record { noted = noted.Reader; slot = i; generation = g; borrow = b }) t' (with_reader b)
  begun nobody b is =
      let same_cell = (rw (seen a) at there).0 in
      elim readable_here [
        | inl own ↦
            rw (is, own.2) (borrowed a (same_step a.at refl (rw own.2 tt))
            (begins nobody refl (same_cell, rw own.2 refl)) (rw own.2 tt) _
            (rw (own.2, nobody, eq-eqb i i refl)))
        | inr own ↦
            let place = has_place a.at own.3 in
            let set = get_or-set_same t.lists own.1 (list_at t.lists own.1 ++ b ∷ []) [] (used_at a.at own.3).within in
            rw (is, own.3, ne_eqb own.1 no_index place) (borrowed a
            (list_step a.at (rw own.3 refl) place (not_empty _ b) refl (rw own.3 refl))
            (begins nobody refl (
              same_cell,
              rw (own.3, set)
                  (grind (arith, nat_tests, common_steps)),
            )) (rw own.3 tt) _
            (rw (own.3, ne_eqb own.1 no_index place, set)))
      ]

  pub begun_alone : is_noted r.noted ≡ false → (b : Borrow) → IsAlone g (slice_get now.slots i)
      → Reborrows a (record { noted = noted.Reader; slot = i; generation = g; borrow = b }) t (with_reader b)
  begun_alone nobody b free = begun nobody b (rw (lone a nobody g free).1.2 refl)

-- ---- another slot, with a cell without borrows

module _ {T : Type 0} {r : LastBorrow} {t : Table} {es : List (StorageEntry T)} {ds : List EntryDetails}
    {now : EntryList T} {room x y : ℕ} (s : IsKept r t es ds now room x y) (e : StorageEntry T) (l : Location) where
  abbrev fresh : EntryDetails
  fresh = record { created_at = l; references = 0 }

  -- no borrow is noted beyond the last
  away_end : is_noted_at r (length es) ≡ false
  away_end = false_from_ne_true _ (λ on.
      let e = noted_there r t.lists (length es) _ s.holds.1.noted on in
      omega (arith, slice_get_within es r.slot e.0 e.1, noted_slot r (length es) on))

  pub pushed : IsUnborrowed (data_in e.content) → length now.slots < now.rooms
      → AreIndexed t (es ++ e ∷ []) × AreBorrowsNoted r t.lists (es ++ e ∷ [])
      × (length (ds ++ fresh ∷ []) ≡ length (es ++ e ∷ [])) × (length (es ++ e ∷ []) ≤ room)
      × (entries_of r t.lists (es ++ e ∷ []) (ds ++ fresh ∷ []) ≡ now.slots
      ++ record { generation = e.generation; kept = kept_data [] l (data_in e.content); references = 0 } ∷ [])
  pushed unborrowed left =
      let w = push_written es e in let free = unborrowed_free (data_in e.content) unborrowed in
      let long = length-append es (e ∷ []) in let long' = length-append ds (fresh ∷ []) in
      let slots = entries_of r t.lists es ds in let new = entry_of r t.lists (length es) e fresh in
      let rooms = ap (λ (x : EntryList _). x.rooms) s.view in (
        indexed_free w s.holds.0 free (omega arith) (rw (slice_get_past es (length es) (omega arith)) refl),
        noted_after w s.holds.1 (λ k other. refl) (stays refl away_end) (free_written _ free r (length es)),
        omega (arith, s.holds.2),
        omega (arith, many s, rooms),
        rw (← same_slots s) (rw (free_none _ free, away_end) at (entries_written r r t.lists t.lists w
            (rw s.holds.2 at (push_written ds fresh))
            (rw (entries_len r t.lists es ds s.holds.2) at (push_written slots new)) (λ k other. refl))),
      )
