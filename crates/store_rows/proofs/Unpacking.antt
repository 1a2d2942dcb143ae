-- Rows, packed and read back.
use Rattle.generational_core.specs.{declared.rows.BaseRow.BaseRow, Boxes.id_of, Names.Name}
use Rattle.generational_core.specs.{Rows.owner_rows, State.Ownership, Plain.Plain}
use Rattle.generational_errors.specs.declared.error.Location.{Location}
use Rattle.std.proofs.Common.{ap, append-nil, append_assoc, arith, drop, IfSome, length}
use Rattle.std.proofs.Common.{length-append, List, refl, slice_get, Some, suc, sym, take, take_all}
use Rattle.std.proofs.Common.{zero, ℕ, [], ◌++◌, ◌+◌, ◌<◌, ◌∙◌, ◌∷◌, ◌≡◌, ◌≤◌}
use Rattle.std.proofs.lemmas.List.{drop-append-le, drop-drop, length-drop, take-append-le}
use Rattle.std.proofs.{Math.Seq.drop-nil, Math.ListN.set, lemmas.Option.slice_get_past}
use Rattle.std.proofs.{Math.Seq.take-nil}
use Rattle.std.specs.{Prelude.map as list_map, List.zip}
use Rattle.store_parts.proofs.records.{no_owners}
use Rattle.store_parts.specs.KeptRecords.{owners_of, MaybeRecord}
use Rattle.store_rows.specs.Packed.{unpack, unpack_all, whole_in, whole_of}
use Rattle.store_rows.specs.Past.{ArePast, ArePastSlots, AreSlotsOf, IsPastSlot}
use Rattle.store_rows.specs.declared.packed.PackedSlot.{PackedSlot}
use Rattle.std.specs.FinMap as map
use Rattle.store_rows.specs.declared.packed.PackedSlot.TheVariants as packed
use Rattle.generational_core.specs.declared.rows.BaseRow.TheVariants as row

-- ==== two lists side by side

module _ {A B : Type 0} where
  -- the first and the second of a pair
  pub pair_at : (xs : List A) (ys : List B) (i : ℕ) → length xs ≡ length ys
      → IfSome (slice_get (zip xs ys) i)
      (λ e. (slice_get xs i ≡ Some e.0) × (slice_get ys i ≡ Some e.1))
  pair_at (x ∷ xs) (y ∷ ys) (suc i) same = pair_at xs ys i (omega arith)
  pair_at xs ys i same = grind arith

  pub zip_set : (xs : List A) (ys : List B) (i : ℕ) (x : A) (y : B)
      → zip (set xs i x) (set ys i y) ≡ set (zip xs ys) i (x, y)
  zip_set (a ∷ xs) (b ∷ ys) (suc i) x y = rw (zip_set xs ys i x y) refl
  zip_set xs ys i x y = grind arith

  pub zip_snoc : (xs : List A) (ys : List B) (x : A) (y : B) → length xs ≡ length ys
      → zip (xs ++ x ∷ []) (ys ++ y ∷ []) ≡ zip xs ys ++ (x, y) ∷ []
  zip_snoc (a ∷ xs) (b ∷ ys) x y same = rw (zip_snoc xs ys x y (omega arith)) refl
  zip_snoc [] [] x y same = refl
  zip_snoc xs ys x y same = absurd (omega arith)

  pub zip_take : (n : ℕ) (xs : List A) (ys : List B) → zip (take n xs) (take n ys) ≡ take n (zip xs ys)
  zip_take (suc n) (a ∷ xs) (b ∷ ys) = rw (zip_take n xs ys) refl
  zip_take n xs ys = grind arith

  -- the next pair
  pub drop_next : (zs : List (A × B)) (i : ℕ) (x : A) (y : B) → i < length zs
      → IfSome (slice_get zs i) (λ e. x ≡ e.0) → IfSome (slice_get zs i) (λ e. y ≡ e.1)
      → drop i zs ≡ (x, y) ∷ drop (suc i) zs
  drop_next (z ∷ zs) (suc i) x y within first second = drop_next zs i x y (omega arith) first second
  drop_next zs i x y within first second = grind arith

module _ {X : Type 0} where
  -- behind the element that is set, and behind one that is appended, all is unchanged
  pub get_behind : (xs : List X) (k : ℕ) (x : X) (i : ℕ) → k < i → slice_get (set xs k x) i ≡ slice_get xs i
  get_behind (a ∷ xs) (suc k) x (suc i) after = get_behind xs k x i (omega arith)
  get_behind xs k x i after = grind arith

  pub get_after : (xs : List X) (x : X) (i : ℕ) → length xs < i
      → slice_get (xs ++ x ∷ []) i ≡ slice_get xs i
  get_after xs x i after =
      slice_get_past (xs ++ x ∷ []) i (omega (arith, length-append xs (x ∷ [])))
      ∙ sym (slice_get_past xs i (omega arith))

  pub take_after : (xs : List X) (x : X)
      → take (length xs + 1) (xs ++ x ∷ []) ≡ take (length xs) xs ++ x ∷ []
  take_after xs x = grind (arith, take_all, length-append)

-- ==== the rows of packed slots, with another slot, and with more whole rows

-- a slot's whole rows come after those of the slots before it
pub whole_snoc : (slots : List (PackedSlot × Location)) (e : PackedSlot × Location)
    → whole_of (slots ++ e ∷ []) ≡ whole_of slots + whole_in e.0
whole_snoc [] e = omega arith
whole_snoc (x ∷ slots) e = omega (arith, whole_snoc slots e)

module _ (number : ℕ) where
  -- a slot after these
  pub unpack_snoc : (whole : List BaseRow) (slot : ℕ) (slots : List (PackedSlot × Location))
      (e : PackedSlot × Location) → unpack_all number whole slot (slots ++ e ∷ [])
      ≡ unpack_all number whole slot slots
      ++ unpack number (drop (whole_of slots) whole) (slot + length slots) e
  unpack_snoc whole slot [] e =
      let at : slot ≡ slot + 0 = omega arith in
      append-nil (unpack number whole slot e) ∙ rw (← at) refl
  unpack_snoc whole slot (x ∷ slots) e =
      let at : (slot + 1) + length slots ≡ slot + suc (length slots) = omega arith in
      let rest = unpack_snoc (drop (whole_in x.0) whole) (slot + 1) slots e in
      rw (rest, drop-drop (whole_of slots) (whole_in x.0) whole, at, append_assoc) refl

  -- more whole rows
  unpack_more : (whole more : List BaseRow) (slot : ℕ) (e : PackedSlot × Location)
      → whole_in e.0 ≤ length whole → unpack number (whole ++ more) slot e ≡ unpack number whole slot e
  unpack_more whole more slot (packed.Whole n, l) within = take-append-le n whole more within
  unpack_more whole more slot _ within = refl

  pub unpack_grows : (whole more : List BaseRow) (slot : ℕ) (slots : List (PackedSlot × Location))
      → whole_of slots ≤ length whole
      → unpack_all number (whole ++ more) slot slots ≡ unpack_all number whole slot slots
  unpack_grows whole more slot [] within = refl
  unpack_grows whole more slot (x ∷ slots) within =
      rw (
        unpack_more whole more slot x (omega arith),
        drop-append-le (whole_in x.0) whole more (omega arith),
        unpack_grows (drop (whole_in x.0) whole) more (slot + 1) slots
            (omega (arith, length-drop (whole_in x.0) whole)),
      ) refl

-- no slots and no owners have no rows
pub no_rows : (number : ℕ) (whole : List BaseRow) (slots : List (PackedSlot × Location))
    (owners : List MaybeRecord) → slots ≡ [] → owners ≡ []
    → unpack_all number whole 0 slots ++ owner_rows number (map.entries (owners_of owners)) ≡ []
no_rows number whole slots owners none nobody = rw (none, nobody, no_owners) refl

-- ==== the slots of an earlier state's rows are those of an earlier state, and so are their rows
-- alone

module _ (P : Plain) where
  -- both parts of past rows are past
  pub past_parts : (xs ys : List BaseRow) → ArePast P (xs ++ ys) → ArePast P xs × ArePast P ys
  past_parts [] ys all = (tt, all)
  past_parts (x ∷ xs) ys all =
      let rest = past_parts xs ys all.1 in ((all.0, rest.0), rest.1)

  past_slot : (number : ℕ) (whole : List BaseRow) (slot : ℕ) (e : PackedSlot × Location)
      → ArePast P (unpack number whole slot e) → IsPastSlot P slot e
  past_slot number whole slot (packed.Value g, l) all = all.1.0
  past_slot number whole slot (packed.Shared g, l) all = all.1.0
  past_slot number whole slot _ all = tt

  past_from : (number : ℕ) (whole : List BaseRow) (slot : ℕ) (slots : List (PackedSlot × Location))
      → ArePast P (unpack_all number whole slot slots)
      → (i k : ℕ) (p : PackedSlot × Location) → k ≡ slot + i → slice_get slots i ≡ Some p
      → IsPastSlot P k p
  past_from number whole slot [] all i k p is at = cc
  past_from number whole slot (x ∷ xs) all zero k p is at =
      let here : k ≡ slot = omega arith in let same : x ≡ p = cc in
      let own = (past_parts (unpack number whole slot x) _ all).0 in
      rw (here, ← same) (past_slot number whole slot x own)
  past_from number whole slot (x ∷ xs) all (suc i) k p is at =
      past_from number (drop (whole_in x.0) whole) (slot + 1) xs
      (past_parts (unpack number whole slot x) _ all).1 i k p (omega arith) at

  pub past_slots : (rows : List BaseRow) (slots : List (PackedSlot × Location)) → ArePast P rows
      → AreSlotsOf rows slots → ArePastSlots P slots
  past_slots rows slots all of i p at =
      past_from of.number of.whole 0 slots
      (past_parts _ of.owners (rw of.are at all)).0 i i p (omega arith) at

  pub both_past : (xs ys : List BaseRow) → ArePast P xs → ArePast P ys → ArePast P (xs ++ ys)
  both_past [] ys all more = more
  both_past (x ∷ xs) ys all more = (all.0, both_past xs ys all.1 more)

  listed_past : (number k : ℕ) (names : List Name)
      → ArePast P (list_map (λ n. row.Owned k (id_of number n)) names)
  listed_past number k [] = tt
  listed_past number k (n ∷ names) = (tt, listed_past number k names)

  pub owners_past : (number : ℕ) (records : List (ℕ × Ownership)) → ArePast P (owner_rows number records)
  owners_past number [] = tt
  owners_past number (e ∷ records) =
      (tt, both_past _ _ (listed_past number e.0 e.1.names) (owners_past number records))

  row_past : (number slot : ℕ) (e : PackedSlot × Location) → IsPastSlot P slot e
      → ArePast P (unpack number [] slot e)
  row_past number slot (packed.Free g, l) was = (tt, tt)
  row_past number slot (packed.Value g, l) was = (tt, (was, tt))
  row_past number slot (packed.Shared g, l) was = (tt, (was, tt))
  row_past number slot (packed.Whole n, l) was = rw (take-nil {A = BaseRow} n) tt

  rows_past : (number slot : ℕ) (slots : List (PackedSlot × Location))
      → ((i k : ℕ) (p : PackedSlot × Location) → k ≡ slot + i → slice_get slots i ≡ Some p
      → IsPastSlot P k p)
      → ArePast P (unpack_all number [] slot slots)
  rows_past number slot [] all = tt
  rows_past number slot (e ∷ slots) all =
      both_past _ _ (row_past number slot e (all 0 slot e (omega arith) refl))
      (rw (drop-nil {A = BaseRow} (whole_in e.0)) (rows_past number (slot + 1) slots
      (λ i k p is at. all (suc i) k p (omega arith) at)))

  -- without whole rows, with those of owners
  pub slots_past : (number : ℕ) (slots : List (PackedSlot × Location)) (records : List (ℕ × Ownership))
      → ArePastSlots P slots
      → ArePast P (unpack_all number [] 0 slots ++ owner_rows number records)
  slots_past number slots records all =
      both_past _ _ (rows_past number 0 slots (λ i k p is at.
      all k p (ap (slice_get slots) (omega arith) ∙ at))) (owners_past number records)
