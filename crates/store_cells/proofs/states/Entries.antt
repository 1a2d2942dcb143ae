-- Entries: notes of one borrow, and lists in the table of borrows.
pub mod Common
use Rattle.store_cells.specs.Data.{SlotData as slot}
use Rattle.std.specs.FinSet as set
use Rattle.store_cells.specs.declared.entry.CellKind.TheVariants as kind
use Rattle.store_cells.specs.declared.entry.StorageEntryData.TheVariants as content
unfoldable pub use Common.*

-- ==== a table of borrows that changes at one index, and what that leaves of the others

pub none_some : (b : Borrow) (bs : List Borrow) → b ∷ bs ≡ [] → ⊥
none_some b bs z = cc

pub not_empty : (bs : List Borrow) (b : Borrow) → bs ++ b ∷ [] ≢ []
not_empty [] b z = cc
not_empty (a ∷ bs) b z = cc

some_member : (s : set.FinSet nat_cmp) (x : ℕ) → set.contains s x ≡ true → 1 ≤ set.len s
some_member s x member =
    let some : set.len s ≢ 0 = λ z. cc (set.empty_of_len s z, set.contains-empty nat_cmp x) in
    omega arith

pub record Changes (t t' : Table) (x : ℕ) : Type 0 where
  pub lists : (q : ℕ) → q ≢ x → list_at t'.lists q ≡ list_at t.lists q
  pub free : (q : ℕ) → q ≢ x → set.contains t'.free q ≡ set.contains t.free q
  pub more : length t.lists ≤ length t'.lists

pub used_still : {t t' : Table} {x : ℕ} → Changes t t' x → (q : ℕ) → q ≢ x → IsUsed t q → IsUsed t'
    q
used_still c q other u = record {
  within = omega arith;
  used = c.free q other ∙ u.used;
  some = λ z. u.some (sym (c.lists q other) ∙ z);
}

put_other : (lists : List (List Borrow)) (x : ℕ) (bs : List Borrow) (q : ℕ) → q ≢ x
    → list_at (put_list lists x bs) q ≡ list_at lists q
put_other lists x bs q other =
    let long = length-append lists (bs ∷ []) in let before = get_or-append lists (bs ∷ []) [] q in
    grind (arith, nat_tests, before, get_or-eq_default, get_or-set_other lists x q bs [])

-- a list that takes the place of another at an index
pub list_changed : (t t' : Table) (x : ℕ) (bs : List Borrow)
    → t' ≡ record t { lists = slice_set t.lists x bs } → Changes t t' x
list_changed t t' x bs is = rw is (record {
  lists = λ q other. get_or-set_other t.lists x q bs [] other;
  free = λ q other. refl;
  more = omega (arith, length-set t.lists x bs);
})

pub list_used : {t : Table} {x : ℕ} {bs : List Borrow} → IsUsed t x → bs ≢ []
    → IsUsed (record t { lists = slice_set t.lists x bs }) x
list_used {t} {x} {bs} u some = record {
  within = omega (arith, u.within, length-set t.lists x bs);
  used = u.used;
  some = rw (get_or-set_same t.lists x bs [] u.within) some;
}

-- an index that is free again
pub closed : {t t' : Table} {x : ℕ} → IsClosed t t' x → Changes t t' x
closed {t} {t'} {x} c = record {
  lists = c.others;
  free = λ q other. rw (c.freed, contains-insert_at t.free x q, ne_eqb q x other);
  more = omega arith;
}

pub closed_count : {t t' : Table} {x : ℕ} → IsClosed t t' x → set.contains t.free x ≡ false
    → set.len t'.free ≡ set.len t.free + 1
closed_count {t} {t'} {x} c used = rw (c.freed, set.len-insert nat_cmp_total t.free x, used) refl

-- an index that is used
pub record Opens (t t' : Table) (x : ℕ) (list : List Borrow) : Type 0 where
  pub vacant : IsVacant t x
  pub some : list ≢ []
  pub lists : t'.lists ≡ put_list t.lists x list
  pub free : t'.free ≡ set.remove t.free x

pub opens_one : {t t' : Table} {x : ℕ} {b : Borrow} → IsVacant t x
    → t'.lists ≡ put_list t.lists x (b ∷ []) → t'.free ≡ set.remove t.free x
    → Opens t t' x (b ∷ [])
opens_one {b = b} vacant lists free =
    record { vacant = vacant; some = none_some b []; lists = lists; free = free }

module _ {t t' : Table} {x : ℕ} {list : List Borrow} (o : Opens t t' x list) where
  put_length : length (put_list t.lists x list)
      ≡ length t.lists + cond (nat_eq x (length t.lists)) 1 0
  put_length = grind (arith, length-append t.lists (list ∷ []), length-set t.lists x list)

  pub opened : Changes t t' x
  opened = record {
    lists = λ q other. rw o.lists (put_other t.lists x list q other);
    free = λ q other. rw (o.free, contains-remove_at t.free x q, ne_eqb q x other);
    more = rw (o.lists, put_length) (omega arith);
  }

  pub opened_list : list_at t'.lists x ≡ list
  opened_list = let vacant = o.vacant in
      rw o.lists (grind (arith, nat_tests, get_or-set_same, get_or-append_seam t.lists list [] []))

  pub opened_used : IsUsed t' x
  opened_used = record {
    within = let vacant = o.vacant in
        rw (o.lists, put_length) (grind (arith, nat_tests));
    used = rw (o.free, contains-remove_at t.free x x, eq-eqb x x refl);
    some = λ z. o.some (sym opened_list ∙ z);
  }

  -- another index is used, and one is added only if none was free
  pub opened_count : set.len t'.free + length t.lists + 1 ≡ set.len t.free + length t'.lists
  opened_count = rw (o.lists, o.free, put_length, set.len-remove nat_cmp_total t.free x)
      (let vacant = o.vacant in let some = some_member t.free x in
      grind (arith, nat_tests, some, set.contains-empty nat_cmp x))

  pub opened_few : (n : ℕ) → length t.lists ≤ n → (set.len t.free ≡ 0 → length t.lists < n)
      → length t'.lists ≤ n
  opened_few n few full = let vacant = o.vacant in
      rw (o.lists, put_length) (grind (arith, nat_tests, full, set.len-empty nat_cmp))

-- ==== the slots of a store with the table of their borrows and the noted one, as methods find them

-- lists with the same at each place
same_each : {A : Type 0} (xs ys : List A) → ((k : ℕ) → slice_get xs k ≡ slice_get ys k) → xs ≡ ys
same_each [] [] same = refl
same_each [] (y ∷ ys) same = cc (same 0)
same_each (x ∷ xs) [] same = cc (same 0)
same_each (x ∷ xs) (y ∷ ys) same = cc (same 0, same_each xs ys (λ k. same (suc k)))

-- ---- the slots as modelled in contracts

module _ {T : Type 0} where
  -- a slot's entry and details together
  abbrev pub both : LastBorrow → List (List Borrow) → ℕ → Option (StorageEntry T) → Option EntryDetails → Option (Entry T)
  both r lists k (Some e) (Some d) = Some (entry_of r lists k e d)
  both r lists k _ _ = None

  module _ (r : LastBorrow) (lists : List (List Borrow)) where
    from_get : (n : ℕ) (es : List (StorageEntry T)) (ds : List EntryDetails) (k m : ℕ) → m ≡ n + k
        → slice_get (entries_from r lists n es ds) k ≡ both r lists m (slice_get es k) (slice_get ds k)
    unfolding entries_from
    from_get n [] ds k m is = refl
    from_get n (e ∷ es) [] k m is = grind arith
    from_get n (e ∷ es) (d ∷ ds) zero m is = let same : m ≡ n = omega (arith, is) in rw same
    from_get n (e ∷ es) (d ∷ ds) (suc k) m is = from_get (suc n) es ds k m (omega (arith, is))

    from_len : (n : ℕ) (es : List (StorageEntry T)) (ds : List EntryDetails)
        → length ds ≡ length es → length (entries_from r lists n es ds) ≡ length es
    unfolding entries_from
    from_len n [] ds same = refl
    from_len n (e ∷ es) [] same = absurd cc
    from_len n (e ∷ es) (d ∷ ds) same = omega (arith, from_len (suc n) es ds (omega arith))

  pub entries_len : (r : LastBorrow) (lists : List (List Borrow)) (es : List (StorageEntry T)) (ds : List EntryDetails)
      → length ds ≡ length es → length (entries_of r lists es ds) ≡ length es
  entries_len r lists es ds same = from_len r lists 0 es ds same

  -- the other slots have the lists that they had, or the borrows
  abbrev pub SameLists : (before after : List (List Borrow)) → List (StorageEntry T) → ℕ → Type 0
  SameLists before after es i = (k : ℕ) → k ≢ i
      → list_at after (index_in (slice_get es k)) ≡ list_at before (index_in (slice_get es k))

  abbrev pub SameBorrows : (r r' : LastBorrow) (before after : List (List Borrow)) → List (StorageEntry T) → ℕ → Type 0
  SameBorrows r r' before after es i = (k : ℕ) → k ≢ i
      → borrows_of r' after k (index_in (slice_get es k)) ≡ borrows_of r before k (index_in (slice_get es k))

  -- a slot that is written with its details, or another slot
  module _ (r r' : LastBorrow) (before after : List (List Borrow)) {es es' : List (StorageEntry T)}
      {ds ds' : List EntryDetails} {i : ℕ} {e : StorageEntry T} {d : EntryDetails} {seen : List (Entry T)}
      (w : IsWritten es es' i e) (v : IsWritten ds ds' i d)
      (s : IsWritten (entries_of r before es ds) seen i (entry_of r' after i e d))
      (same : SameBorrows r r' before after es i) where
    pub entries_written : entries_of r' after es' ds' ≡ seen
    entries_written = same_each _ _ (λ k.
        rw (from_get r' after 0 es' ds' k k (omega arith), w.at k, v.at k, s.at k, from_get r before 0 es ds k k (omega arith))
        (grind (arith, nat_tests, same k)))

-- ---- a slot's content

-- no borrow is listed there, and none is lent
abbrev pub is_free : {T : Type 0} → SlotData T → Bool
is_free (slot.Read kd x v) = false
is_free (slot.Lent kd x) = false
is_free d = true

module _ {T : Type 0} (d : SlotData T) where
  -- which isn't one with listed readers
  abbrev pub NotRead : Type 0
  NotRead = (kd : CellKind) (x : ℕ) (v : T) → d ≡ slot.Read kd x v → ⊥

  module _ (free : is_free d ≡ true) where
    pub free_none : index_of d ≡ no_index
    free_none = grind arith

    pub free_listed : HasListIndex d
    free_listed = grind arith

    pub free_written : (r : LastBorrow) (k : ℕ) → HasWriter r k d
    free_written r k = grind arith

  -- as content without borrows is
  pub unborrowed_free : IsUnborrowed d → is_free d ≡ true
  unborrowed_free free = grind arith

-- ---- a store's slots, as their methods find them

-- what holds of the vectors of the slots and of their details, of the table and the noted borrow
abbrev pub Holds : {T : Type 0} → LastBorrow → Table → List (StorageEntry T) → List EntryDetails → (room x y : ℕ) → Type 0
Holds r t es ds room x y =
    AreIndexed t es × AreBorrowsNoted r t.lists es × (length ds ≡ length es) × AreRoomy room (length es) x y t.rooms

-- and their model in contracts
pub record IsKept {T : Type 0} (r : LastBorrow) (t : Table) (es : List (StorageEntry T)) (ds : List EntryDetails)
    (now : EntryList T) (room x y : ℕ) : Type 0 where
  pub view : record { slots = entries_of r t.lists es ds; rooms = room } ≡ now
  pub holds : Holds r t es ds room x y

pub kept : {T : Type 0} {r : LastBorrow} {t : Table} {es : List (StorageEntry T)} {ds : List EntryDetails}
    {now : EntryList T} {room x y : ℕ} → record { slots = entries_of r t.lists es ds; rooms = room } ≡ now
    → Holds r t es ds room x y → IsKept r t es ds now room x y
kept view v = record { view = view; holds = v }

-- a slot, and what it keeps
pub record IsSlot {T : Type 0} (r : LastBorrow) (t : Table) (es : List (StorageEntry T)) (i : ℕ)
    (e : StorageEntry T) : Type 0 where
  pub base : IsListable r t es
  pub there : slice_get es i ≡ Some e

-- a slot of a store with its details, and with its model in contracts
pub record IsAt {T : Type 0} (r : LastBorrow) (t : Table) (es : List (StorageEntry T)) (ds : List EntryDetails)
    (now : EntryList T) (room x y i : ℕ) (e : StorageEntry T) (d : EntryDetails) : Type 0 where
  pub at : IsSlot r t es i e
  pub made : slice_get ds i ≡ Some d
  pub holds : Holds r t es ds room x y
  pub view : entries_of r t.lists es ds ≡ now.slots

pub there_is : {A : Type 0} (xs : List A) (i : ℕ) → i < length xs → (x : A) × (slice_get xs i ≡ Some x)
there_is xs i within = elim (slice_get_cases xs i).1 [
  | inl some ↦ (some.0, some.2)
  | inr past ↦ absurd (omega arith)
]

-- a borrow that is noted somewhere has a slot
pub noted_there : {T : Type 0} (r : LastBorrow) (lists : List (List Borrow)) (k : ℕ) (o : Option (StorageEntry T))
    → (is_noted r.noted ≡ true → IsNoted r lists o) → is_noted_at r k ≡ true → (e : StorageEntry T) × (o ≡ Some e)
noted_there r lists k None has on = absurd (has (grind arith))
noted_there r lists k (Some e) has on = (e, refl)

pub noted_slot : (r : LastBorrow) (k : ℕ) → is_noted_at r k ≡ true → r.slot ≡ k
noted_slot r k on = grind (arith, nat_tests)

module _ {T : Type 0} {r : LastBorrow} {t : Table} {es : List (StorageEntry T)} {ds : List EntryDetails}
    {now : EntryList T} {room x y : ℕ} (s : IsKept r t es ds now room x y) where
  pub base : IsListable r t es
  base = record { indexed = s.holds.0; noted = s.holds.1; room = omega (arith, s.holds.3); small = omega (arith, s.holds.3) }

  pub same_slots : entries_of r t.lists es ds ≡ now.slots
  same_slots = ap (λ (x : EntryList _). x.slots) s.view

  pub many : length now.slots ≡ length es
  many = rw (← same_slots) (entries_len r t.lists es ds s.holds.2)

  pub here : {i : ℕ} {e : StorageEntry T} {d : EntryDetails} → slice_get es i ≡ Some e → slice_get ds i ≡ Some d
      → IsAt r t es ds now room x y i e d
  here there made =
      record { at = record { base = base; there = there }; made = made; holds = s.holds; view = same_slots }

  -- the slot at an index
  pub found_at : {i : ℕ} {e : StorageEntry T} → slice_get es i ≡ Some e → (d : EntryDetails) × IsAt r t es ds now room x y i e d
  found_at {i} {e} there =
      let d = there_is ds i (omega (arith, slice_get_within es i e there, s.holds.2)) in (d.0, here there d.1)

  -- that a read there finds
  pub found_in : {i : ℕ} → i < length es → {e : StorageEntry T} → e ≡ get_or es i e
      → (d : EntryDetails) × IsAt r t es ds now room x y i e d
  found_in {i} within {e} is = found_at (slice_get_read es (length es) i e refl within is)

  pub found : {i : ℕ} → i < length now.slots → {e : StorageEntry T} → e ≡ get_or es i e
      → (d : EntryDetails) × IsAt r t es ds now room x y i e d
  found within = found_in (omega (arith, many))

  pub found_there : {i : ℕ} → i < length now.slots
      → (e : StorageEntry T) × (d : EntryDetails) × IsAt r t es ds now room x y i e d
  found_there {i} within =
      let e = there_is es i (omega (arith, many)) in let d = found_at e.1 in (e.0, d.0, d.1)

  -- and whose details a read finds
  pub found_details : {i : ℕ} → i < length now.slots → {d : EntryDetails} → d ≡ get_or ds i d
      → (e : StorageEntry T) × IsAt r t es ds now room x y i e d
  found_details {i} within {d} is =
      let e = there_is es i (omega (arith, many)) in
      (e.0, here e.1 (slice_get_read ds (length ds) i d refl (omega (arith, many, s.holds.2)) is))

  -- beyond the last there is none
  pub past : (i : ℕ) → length es ≤ i → slice_get now.slots i ≡ None
  past i beyond = slice_get_past now.slots i (omega (arith, many))

  -- the slot whose borrow is noted
  pub found_noted : (k : ℕ) → is_noted_at r k ≡ true
      → (e : StorageEntry T) × (d : EntryDetails) × IsAt r t es ds now room x y k e d
  found_noted k on =
      let e = noted_there r t.lists k (slice_get es r.slot) s.holds.1.noted on in
      let d = found_at (ap (slice_get es) (sym (noted_slot r k on)) ∙ e.1) in (e.0, d.0, d.1)

  -- when the noted borrow is listed, that holds as before, and the modelled state doesn't change
  pub listed : {r' : LastBorrow} {t' : Table} {es' : List (StorageEntry T)} {x' : ℕ} → IsListed r r' t t' es es' → x' ≡ x
      → IsKept r' t' es' ds now room x' y
  listed l capacity = record {
    view = rw (l.slots ds s.holds.2) s.view;
    holds = (l.indexed, l.noted, s.holds.2 ∙ sym l.same, rw (l.same, capacity, l.rooms) s.holds.3);
  }

-- ---- the borrows at a slot

module _ {T : Type 0} {r : LastBorrow} {t : Table} {es : List (StorageEntry T)} {i : ℕ}
    {e : StorageEntry T} (a : IsSlot r t es i e) where
  abbrev pub standing : List Borrow
  standing = borrows_of r t.lists i (index_of (data_in e.content))

  pub used_here : index_of (data_in e.content) ≢ no_index → IsUsed t (index_of (data_in e.content))
  used_here = rw a.there at (a.base.indexed.used i)

  -- a value with listed readers has an index, and one reader at least
  module _ {kd : CellKind} {x : ℕ} {v : T} (is : data_in e.content ≡ slot.Read kd x v) where
    pub has_place : x ≢ no_index
    has_place = rw (a.there, is) at (a.base.indexed.listed i)

    pub used_at : IsUsed t x
    used_at = (rw (a.there, is) at (a.base.indexed.used i)) has_place

    pub read_borrows : standing ≡ list_at t.lists x
    read_borrows = rw (is, ne_eqb x no_index has_place) refl

    pub read_some : standing ≢ []
    read_some none = used_at.some (sym read_borrows ∙ none)

  -- the index of a lent value, if it has one, and its writer
  module _ {kd : CellKind} {x : ℕ} (is : data_in e.content ≡ slot.Lent kd x) where
    pub lent_used : x ≢ no_index → IsUsed t x
    lent_used = rw (a.there, is) at (a.base.indexed.used i)

    pub lent_noted : x ≡ no_index → is_noted_at r i ≡ true
    lent_noted = rw (a.there, is) at (a.base.noted.written i)

    pub lent_apart : x ≡ no_index → standing ≡ r.borrow ∷ []
    lent_apart none = rw (is, eq-eqb x no_index none, lent_noted none) refl

    pub lent_seen : {w : Borrow} → (x ≡ no_index → w ≡ r.borrow)
        → (x ≢ no_index → slice_get (list_at t.lists x) 0 ≡ Some w) → (l : Location)
        → kept_data standing l (data_in e.content) ≡ Live kd (Lent w) l
    lent_seen apart listed l = grind (arith, nat_tests, lent_apart, apart, listed)

  -- borrows are at an index, if one is noted
  pub indexed_some : index_of (data_in e.content) ≢ no_index → standing ≢ []
  indexed_some some = rw (ne_eqb (index_of (data_in e.content)) no_index some) (used_here some).some

  pub noted_some : is_noted_at r i ≡ true → standing ≢ []
  noted_some on = grind (arith, nat_tests, none_some r.borrow [], indexed_some)

  pub lent : (kd : CellKind) (x : ℕ) → data_in e.content ≡ slot.Lent kd x → standing ≢ []
  lent kd x is = ⊎_elim (λ none. noted_some (lent_noted is none)) (λ some. indexed_some (rw is some)) (cases_eq x no_index)

  -- what holds if it is noted
  pub noted_here : is_noted_at r i ≡ true
      → (e.generation ≡ r.generation) × (may_note r t.lists (data_in e.content) ≡ true)
  noted_here on = grind (arith, nat_tests, noted_slot r i, a.there, a.base.noted.noted)

  -- a noted writer's value is lent, without an index
  pub noted_lent : is_noted_at r i ≡ true → is_writer r.noted ≡ true
      → (kd : CellKind) × (data_in e.content ≡ slot.Lent kd no_index)
  noted_lent on writes = let may = (noted_here on).1 in grind (arith, nat_tests)

  pub noted_index : is_noted_at r i ≡ true → {kd : CellKind} {x : ℕ} → data_in e.content ≡ slot.Lent kd x → x ≡ no_index
  noted_index on is = let may = rw is at (noted_here on).1 in grind (arith, nat_tests)

  -- if no borrow is noted, a writer is listed
  pub lent_listed : {kd : CellKind} {x : ℕ} → data_in e.content ≡ slot.Lent kd x → is_noted r.noted ≡ false → x ≢ no_index
  lent_listed is nobody none = let on = lent_noted is none in grind arith

  -- nothing is in the way of a write if none is noted, listed or lent
  pub write_seen : (l : Location) → is_none (write_refusal (content_in (kept_data standing l (data_in e.content))))
      ≡ cond (is_noted_at r i) false (is_free (data_in e.content))
  write_seen l = grind (arith, noted_here, read_some, lent)

  -- a value without listed readers that isn't lent, if one is noted
  pub noted_data : is_noted_at r i ≡ true → is_free (data_in e.content) ≡ true
      → (kd : CellKind) × (v : T) × (data_in e.content ≡ slot.Data kd v)
  noted_data on free = let may = (noted_here on).1 in grind arith

  -- the noted reader's own ticket opens the value
  pub noted_opens : {n : ℕ} → is_noted_at r i ≡ true → r.borrow.ticket ≡ n → (l : Location)
      → value_of (content_in (kept_data standing l (data_in e.content)))
      ≡ value_for n (content_in (kept_data standing l (data_in e.content)))
  noted_opens on same l = grind (arith, nat_tests, noted_here, read_borrows)

  -- other tickets don't, if no readers are listed
  pub noted_else : (n : ℕ) → (is_reader r.noted && nat_eq r.slot i && nat_eq r.borrow.ticket n) ≡ false
      → NotRead (data_in e.content) → (l : Location) → value_for n (content_in (kept_data standing l (data_in e.content))) ≡ None
  noted_else n off none l = grind (arith, nat_tests, none, noted_here)

-- a guard's own borrow is noted
module _ (r : LastBorrow) (k n : ℕ) where
  pub reads_at : (is_reader r.noted && nat_eq r.slot k && nat_eq r.borrow.ticket n) ≡ true
      → (is_noted_at r k ≡ true) × (r.borrow.ticket ≡ n)
  reads_at h = (grind (arith, nat_tests), grind (arith, nat_tests))

  pub writes_at : (is_writer r.noted && nat_eq r.slot k && nat_eq r.borrow.ticket n) ≡ true
      → (is_noted_at r k ≡ true) × (is_writer r.noted ≡ true) × (r.borrow.ticket ≡ n)
  writes_at h = (grind (arith, nat_tests), grind arith, grind (arith, nat_tests))

-- a readable cell is within, and so is one without borrows
pub readable_within : {T : Type 0} (slots : List (Entry T)) (i g : ℕ) → IsReadable g (slice_get slots i) → i < length slots
readable_within slots i g has = grind (arith, slice_get_past)

pub alone_readable : {T : Type 0} (o : Option (Entry T)) (g : ℕ) → IsAlone g o → IsReadable g o
alone_readable o g has = grind arith

-- ---- a slot that is written

-- what becomes of the note: it stays at another slot, the slot's own ends, or the slot's own begins
pub data Notes {T : Type 0} (r r' : LastBorrow) (lists : List (List Borrow)) (i : ℕ) (e : StorageEntry T) : Type 0 where
  stays : r' ≡ r → is_noted_at r i ≡ false → Notes r r' lists i e
  ends : r' ≡ cleared r → is_noted_at r i ≡ true → Notes r r' lists i e
  begins : is_noted r.noted ≡ false → r'.slot ≡ i → IsNoted r' lists (Some e) → Notes r r' lists i e

module _ {T : Type 0} {r r' : LastBorrow} {i : ℕ} {e' : StorageEntry T} {lists : List (List Borrow)} where
  -- no other slot's borrow begins or ends
  notes_apart : Notes r r' lists i e' → (k : ℕ) → k ≢ i
      → (is_noted_at r' k ≡ is_noted_at r k) × (noted_at r' k ≡ noted_at r k)
  notes_apart n k other = grind (arith, nat_tests, noted_slot r i)

  module _ {before : List (List Borrow)} {es es' : List (StorageEntry T)} (w : IsWritten es es' i e')
      (was : AreBorrowsNoted r before es) (same : SameLists before lists es i) where
    -- the note is at its cell
    noted_fits : Notes r r' lists i e' → is_noted r'.noted ≡ true → IsNoted r' lists (slice_get es' r'.slot)
    noted_fits n on = grind (arith, nat_tests, w.at r'.slot, same r.slot, was.noted)

    pub noted_after : Notes r r' lists i e' → HasWriter r' i (data_in e'.content) → AreBorrowsNoted r' lists es'
    noted_after n written = record {
      noted = noted_fits n;
      written = λ k. grind (arith, nat_tests, w.at k, was.written k, notes_apart n k);
    }

-- what becomes of the table: the other slots have their lists
pub record Steps {T : Type 0} (t t' : Table) (es : List (StorageEntry T)) (i : ℕ) (e : StorageEntry T) : Type 0 where
  pub lists : SameLists t.lists t'.lists es i
  pub indexed : AreIndexed t' (slice_set es i e)
  pub rooms : t'.rooms ≡ t.rooms

-- what holds afterwards, and the model in contracts
pub record Writes {T : Type 0} (r : LastBorrow) (t : Table) (es : List (StorageEntry T)) (ds : List EntryDetails)
    (room x y : ℕ) (now : List (Entry T)) : Type 0 where
  pub holds : Holds r t es ds room x y
  pub view : entries_of r t.lists es ds ≡ now

module _ {T : Type 0} {r : LastBorrow} {t : Table} {es : List (StorageEntry T)} {ds : List EntryDetails}
    {now : EntryList T} {room x y i : ℕ} {e : StorageEntry T} {d : EntryDetails}
    (a : IsAt r t es ds now room x y i e d) where
  seen_own : slice_get (entries_of r t.lists es ds) i ≡ Some (entry_of r t.lists i e d)
  seen_own = rw (from_get r t.lists 0 es ds i i (omega arith), a.at.there, a.made) refl

  pub seen : slice_get now.slots i ≡ Some (entry_of r t.lists i e d)
  seen = rw (← a.view) seen_own

  -- another content is in its cell, or other borrows, and what it keeps changes so
  abbrev pub Rewrites : LastBorrow → Table → StorageEntryData T → (Kept T → Kept T) → Type 0
  Rewrites r' t' k f = Writes r' t' (slice_set es i (record e { content = k })) ds room x y
      (change_entry now.slots i (λ e. record e { kept = f e.kept }))

  abbrev pub Reborrows : LastBorrow → Table → (Kept T → Kept T) → Type 0
  Reborrows r' t' f = Writes r' t' es ds room x y (change_entry now.slots i (λ e. record e { kept = f e.kept }))

  -- the slot is written, with its details
  pub wrote : {r' : LastBorrow} {t' : Table} {e' : StorageEntry T} (d' : EntryDetails) → Steps t t' es i e'
      → Notes r r' t'.lists i e' → HasWriter r' i (data_in e'.content)
      → Writes r' t' (slice_set es i e') (slice_set ds i d') room x y
      (slice_set now.slots i (entry_of r' t'.lists i e' d'))
  wrote {r'} {t'} {e'} d' s n written =
      let w = set_written es i e' e a.at.there in record {
        holds = (
          s.indexed,
          noted_after w a.holds.1 s.lists n written,
          length-set ds i d' ∙ a.holds.2 ∙ sym (length-set es i e'),
          rw (length-set es i e', s.rooms) a.holds.3,
        );
        view = rw (← a.view) (entries_written r r' t.lists t'.lists w (set_written ds i d' d a.made)
            (set_written _ i _ _ seen_own) (λ k other. rw (s.lists k other, (notes_apart n k other).1) refl));
      }

  -- its cell alone
  pub wrote_cell : {r' : LastBorrow} {t' : Table} {e' : StorageEntry T} → Steps t t' es i e'
      → Notes r r' t'.lists i e' → HasWriter r' i (data_in e'.content) → (f : Entry T → Entry T)
      → entry_of r' t'.lists i e' d ≡ f (entry_of r t.lists i e d)
      → Writes r' t' (slice_set es i e') ds room x y (change_entry now.slots i f)
  wrote_cell s n written f becomes = rw (seen, ← becomes) (rw (set-own ds i d a.made) at (wrote d s n written))

  -- its borrows alone
  pub borrowed : {r' : LastBorrow} {t' : Table} → Steps t t' es i e → Notes r r' t'.lists i e
      → HasWriter r' i (data_in e.content) → (f : Entry T → Entry T)
      → entry_of r' t'.lists i e d ≡ f (entry_of r t.lists i e d) → Writes r' t' es ds room x y (change_entry now.slots i f)
  borrowed s n written f becomes = rw (set-own es i e a.at.there) at (wrote_cell s n written f becomes)

  -- its details alone
  pub wrote_details : (d' : EntryDetails) (f : Entry T → Entry T) → entry_of r t.lists i e d' ≡ f (entry_of r t.lists i e d)
      → entries_of r t.lists es (slice_set ds i d') ≡ change_entry now.slots i f
  wrote_details d' f becomes = rw (seen, ← a.view, ← becomes) (rw (set-own es i e a.at.there)
      at (entries_written r r t.lists t.lists (set_written es i e e a.at.there) (set_written ds i d' d a.made)
      (set_written _ i _ _ seen_own) (λ k other. refl)))

  -- ---- the slot as modelled in contracts

  pub says : (P : Entry T → Type 0) → ((d : EntryDetails) → P (entry_of r t.lists i e d)) → IfSome (slice_get now.slots i) P
  says P h = rw seen (h d)

  -- nothing is in the way of a write: no borrow is noted, listed or lent
  pub quiet : write_refusal (content_in (entry_of r t.lists i e d).kept) ≡ None
      → (is_noted_at r i ≡ false) × (is_free (data_in e.content) ≡ true)
  quiet none = let seen = write_seen a.at d.created_at in grind arith

  -- nor are there any at a cell without borrows, which is a value
  pub alone : has_no_borrow (content_in (entry_of r t.lists i e d).kept) ≡ true
      → (is_noted_at r i ≡ false) × ((kd : CellKind) × (v : T) × (data_in e.content ≡ slot.Data kd v))
  alone free = let seen = write_seen a.at d.created_at in grind arith

  -- readers are in the way
  pub hindered : {bs : List Borrow} → standing a.at ≡ bs → bs ≢ [] → is_lent_data (data_in e.content) ≡ false
      → is_some (kind_of (data_in e.content)) ≡ true → (q : Refused BorrowMutError) → FoundReaders bs q
      → FoundBorrowed (write_refusal (content_in (entry_of r t.lists i e d).kept)) (Err q)
  hindered is some here value q readers = grind arith

  -- a borrow with an index is in the way
  pub stopped : index_of (data_in e.content) ≢ no_index
      → is_some (write_refusal (content_in (entry_of r t.lists i e d).kept)) ≡ true
  stopped some = grind (arith, write_seen a.at d.created_at, free_none (data_in e.content))

  pub kind_seen : (g : ℕ) → cond (nat_eq e.generation g) (kind_of (data_in e.content)) None
      ≡ cell_kind_in (cell_in (slice_get now.slots i) g)
  kind_seen g = rw seen (grind (arith, nat_tests, lent a.at))

  pub lead_seen : (n : Name) → cond (nat_eq e.generation n.generation) (lead_of (data_in e.content) n) None
      ≡ leads_to (cell_in (slice_get now.slots i) n.generation) n
  lead_seen n = rw seen (grind (arith, nat_tests, lent a.at))

  pub target_seen : (g : ℕ) → cond (nat_eq e.generation g) (target_name_of (data_in e.content)) None
      ≡ target_name_in (cell_in (slice_get now.slots i) g)
  target_seen g = rw seen (grind (arith, nat_tests, lent a.at))

  pub unborrowed_seen : (g : ℕ) → is_unborrowed_value (cell_in (slice_get now.slots i) g)
      ≡ (cond (nat_eq e.generation g) (is_unborrowed_data (data_in e.content)) false && not (is_noted_at r i))
  unborrowed_seen g = rw seen (grind (arith, nat_tests, write_seen a.at d.created_at))

  pub noted_seen : is_noted_at r i ≡ true → is_some (content_of (cell_in (slice_get now.slots i) r.generation)) ≡ true
  noted_seen on = rw seen (grind (arith, nat_tests, noted_here a.at on, lent a.at))

  -- there is no borrow if none is noted, listed or lent
  module _ (away : is_noted_at r i ≡ false) (free : is_free (data_in e.content) ≡ true) where
    pub unhindered : write_refusal (content_in (entry_of r t.lists i e d).kept) ≡ None
    unhindered = let seen = write_seen a.at d.created_at in grind arith

    pub rowless : (id : GenerationalBoxId) → content_rows id (content_in (entry_of r t.lists i e d).kept) ≡ []
    rowless id = grind arith

-- ==== what a slot's content says, by its form

module _ {T : Type 0} {d : StorageEntryData T} where
  -- a value, one with listed readers, and one that is lent
  pub data_form : {v : T} → (d ≡ content.Data v) ⊎ (d ≡ content.Shared v) → (kd : CellKind) × (data_in d ≡ slot.Data kd v)
  data_form is = elim is [ inl own ↦ (kind.Value, ap data_in own) | inr own ↦ (kind.Shared, ap data_in own) ]

  pub read_form : {x : ℕ} {v : T} → (d ≡ content.Read x v) ⊎ (d ≡ content.SharedRead x v)
      → (kd : CellKind) × (data_in d ≡ slot.Read kd x v)
  read_form is = elim is [ inl own ↦ (kind.Value, ap data_in own) | inr own ↦ (kind.Shared, ap data_in own) ]

  pub index_form : {x : ℕ} → ((v : T) × (d ≡ content.Read x v)) ⊎ ((v : T) × (d ≡ content.SharedRead x v))
      → (kd : CellKind) × (v : T) × (data_in d ≡ slot.Read kd x v)
  index_form is = grind arith

  -- what it isn't
  pub no_read : ((x : ℕ) (v : T) → d ≡ content.Read x v → ⊥) → ((x : ℕ) (v : T) → d ≡ content.SharedRead x v → ⊥)
      → NotRead (data_in d)
  no_read own shared = grind (arith, own, shared)

  module _ (lent : (x : ℕ) (kd : CellKind) → d ≡ content.Lent x kd → ⊥) where
    pub no_borrow : ((x : ℕ) (v : T) → d ≡ content.Read x v → ⊥) → ((x : ℕ) (v : T) → d ≡ content.SharedRead x v → ⊥)
        → is_free (data_in d) ≡ true
    no_borrow own shared = grind (arith, own, shared, lent)

    -- if none is lent, there is no writer
    pub no_refusal : (bs : List Borrow) (l : Location) → None ≡ read_refusal (content_in (kept_data bs l (data_in d)))
    no_refusal bs l = grind (arith, lent)

    pub no_writer : (bs : List Borrow) (l : Location) (n : ℕ) → has_writer (content_in (kept_data bs l (data_in d))) n ≡ false
    no_writer bs l n = grind (arith, lent)

  module _ (own : (v : T) → d ≡ content.Data v → ⊥) (shared : (v : T) → d ≡ content.Shared v → ⊥) where
    pub no_data : {kd : CellKind} {v : T} → data_in d ≡ slot.Data kd v → ⊥
    no_data is = grind (arith, own, shared)

    -- if there is no value, none is seen
    pub no_value : ((x : ℕ) (v : T) → d ≡ content.Read x v → ⊥) → ((x : ℕ) (v : T) → d ≡ content.SharedRead x v → ⊥)
        → (bs : List Borrow) (l : Location) → None ≡ value_of (content_in (kept_data bs l (data_in d)))
    no_value read shared_read bs l = grind (arith, own, shared, read, shared_read)

-- a noted borrow has an index, unless it is a value's only reader or a writer
module _ {T : Type 0} {r : LastBorrow} {t : Table} {es : List (StorageEntry T)} {i : ℕ} {e : StorageEntry T}
    (a : IsSlot r t es i e) (on : is_noted_at r i ≡ true) where
  pub noted_placed : ((v : T) → e.content ≡ content.Data v → ⊥) → ((v : T) → e.content ≡ content.Shared v → ⊥)
      → ((x : ℕ) (kd : CellKind) → e.content ≡ content.Lent x kd → ⊥) → index_of (data_in e.content) ≢ no_index
  noted_placed own shared lent none =
      grind (arith, own, shared, lent, noted_here a on, has_place a)

-- readers that have an index stay listed
pub still_read : {T : Type 0} (kd : CellKind) (x : ℕ) (v : T) → x ≢ no_index → slot.Read kd x v ≡ unread_data (slot.Read kd x v)
still_read kd x v some = rw (ne_eqb x no_index some) refl
