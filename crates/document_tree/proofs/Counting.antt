-- How many places are live, as many as the store has cells; and how many parts there are.
use Rattle.document_tree.proofs.Keeping.Common.{ap, arith, GenerationalBoxId, IsSimple, IsSound, is_some, key_in, length, List}
use Rattle.document_tree.proofs.Keeping.Common.{name_in, nowhere, Option, None, refl, Some, State, subst, suc, sym, true, true≢false, zero}
use Rattle.document_tree.proofs.Keeping.Common.{AreExactly, without_one, seen_cell, seen_store}
use Rattle.document_tree.proofs.Keeping.Common.{ℕ, [], ◌∙◌, ◌∷◌, ◌≡◌, ◌≢◌}
use Rattle.document_tree.proofs.Keeping.Common.{DocumentState, IsDocumentKept, Leads, Part, part_at, part_in, Place, places_of}
use Rattle.document_tree.proofs.Keeping.Common.{at_slot, cond, count_by, id_in, IsOnlyPlace, IsTold, shown_in, shown_of, slice_index_or, sum_by-cons, ◌<◌, ◌≤◌}
use Rattle.document_tree.proofs.Keeping.{counted_alike, counted_one, led_part, live_shows, one_or_two}
use Rattle.document_tree.specs.Counting.{HasParts, HasPlaces, PartHasPlaces}
use Rattle.generational_core.proofs.maps.Maps.{keys_apart, len_keys, name_here, name_same}
use Rattle.generational_core.specs.{Cells.Cell, Cells.refers_to, Names.Name, Names.name_cmp}
unfoldable use Rattle.generational_core.specs.{Borrowing.reach, Names.is_name, Seeing.value_in, State.is_named}
use Rattle.generational_core.specs.Cells.Cell.{Ref, Shared, Value}
use Rattle.generational_core.specs.Cells.Content.{Here, Lent}
use Rattle.generational_core.specs.Boxes.{id_of}
use Rattle.std.specs.FinMap as map
use Rattle.std.specs.List.{AllByRecursion, IsDistinct, list_any}
use Rattle.std.specs.Prelude.{false}

-- the names of a list are as many as its ids in a store, if none stands in it twice
module _ (number : ℕ) where
  abbrev Named : List Name → GenerationalBoxId → Type 0
  Named qs id = (id.store ≡ number) × (list_any (is_name (name_in id)) qs ≡ true)

  not_named : (q : Name) (qs : List Name) → AllByRecursion (λ r. is_name q r ≡ false) qs
      → list_any (is_name q) qs ≡ true → ⊥
  not_named q [] apart some = true≢false (sym some)
  not_named q (r ∷ qs) apart some = not_named q qs apart.1 (rw apart.0 at some)

  named_first : (q : Name) (qs : List Name) (id : GenerationalBoxId) → Named (q ∷ qs) id → id ≢ id_of number q
      → Named qs id
  named_first q qs id is other = (is.0, grind (arith, is.1, is.0, name_same (name_in id) q))

  named_more : (q : Name) (qs : List Name) (id : GenerationalBoxId) → Named qs id → Named (q ∷ qs) id
  named_more q qs id is = (is.0, grind (arith, is.1))

  counted_names : (qs : List Name) → IsDistinct is_name qs → AreExactly (length qs) (Named qs)
  unfolding IsDistinct
  counted_names [] apart = λ id is. true≢false (sym is.1)
  counted_names (q ∷ qs) apart = (
    id_of number q,
    (refl, grind (arith, name_here q)),
    counted_alike (length qs) (Named qs) (without_one (Named (q ∷ qs)) (id_of number q))
        (λ id is. (named_more q qs id is, λ one. not_named q qs apart.0 (subst (λ i. list_any (is_name (name_in i)) qs ≡ true) one is.1)))
        (λ id is. named_first q qs id is.0 is.1) (counted_names qs apart.1),
  )

module _ {T : Type 0} (S : State T) (sound : IsSound S) (simple : IsSimple S) where
  none_named : (q : Name) (ns : List Name) → list_any (λ n. refers_to q (map.get S.cells n)) ns ≡ true → ⊥
  none_named q [] named = grind arith
  none_named q (n ∷ ns) named = grind (arith, none_named q ns, refers q n)
    where
      refers : (q n : Name) → refers_to q (map.get S.cells n) ≡ false
      refers q n = grind (arith, simple.plain.none n)

  -- each cell of a store that a document has is a value
  pub cell_seen : (id : GenerationalBoxId) → id.store ≡ S.number
      → map.contains_key S.cells (name_in id) ≡ true
      → is_some (value_in S (record { id = id; created_at = nowhere })) ≡ true
  unfolding value_in reach is_named
  cell_seen id own there = at (map.get S.cells (name_in id)) refl there
    where
      at : (c : Option (Cell T)) → map.get S.cells (name_in id) ≡ c → is_some c ≡ true
          → is_some (value_in S (record { id = id; created_at = nowhere })) ≡ true
      at None is some = absurd (true≢false (sym some))
      at (Some (Value (Here v readers) l)) is some = grind (arith, own)
      at (Some (Value (Lent w) l)) is some = grind (arith, simple.unborrowed.none (name_in id))
      at (Some (Shared c l)) is some =
          absurd (none_named (name_in id) (map.keys S.cells) (sound.shared (name_in id) (grind arith)))
      at (Some (Ref m l)) is some = absurd (simple.plain.none (name_in id) m l is)

  -- so the places are as many as the cells
  pub places_counted : AreExactly (map.len S.cells) (λ id. is_some (value_in S (record { id = id; created_at = nowhere })) ≡ true)
  unfolding is_name
  places_counted = subst (λ n. AreExactly n (λ id. is_some (value_in S (record { id = id; created_at = nowhere })) ≡ true))
      (sym (len_keys name_cmp S.cells))
      (counted_alike (length (map.keys S.cells)) (Named S.number (map.keys S.cells))
      (λ id. is_some (value_in S (record { id = id; created_at = nowhere })) ≡ true)
      (λ id is. cell_seen id is.0 (map.contains_key-keys S.cells (name_in id) ∙ is.1))
      (λ id seen. (
        seen_store S (record { id = id; created_at = nowhere }) sound seen,
        sym (map.contains_key-keys S.cells (name_in id)) ∙ seen_cell S (record { id = id; created_at = nowhere }) seen,
      ))
      (counted_names S.number (map.keys S.cells) (keys_apart name_cmp S.cells)))

-- a count is 0 exactly if there is nothing to count
pub none_counted : {X : Type 0} (n : ℕ) (P : X → Type 0) → AreExactly n P → AreExactly 0 P → n ≡ 0
none_counted zero P k none = refl
none_counted (suc n) P k none = absurd (none k.0 k.1)

-- things that each come from one of those counted are as many
pub counted_mapped : {X Y : Type 0} (n : ℕ) (f : X → Y) → ((x z : X) → f x ≡ f z → x ≡ z) → (P : X → Type 0)
    → AreExactly n P → AreExactly n (λ y. (x : X) × P x × (f x ≡ y))
counted_mapped zero f one P none = λ y is. none is.0 is.1
counted_mapped {X} {Y} (suc n) f one P k = (
  f k.0,
  (k.0, k.1, refl),
  counted_alike n (λ (y : Y). (x : X) × without_one P k.0 x × (f x ≡ y)) (without_one (λ y. (x : X) × P x × (f x ≡ y)) (f k.0))
      (λ y h. ((h.0, h.1.0, h.2), λ e. h.1.1 (one h.0 k.0 (h.2 ∙ e))))
      (λ y h. (h.0.0, (h.0.1, λ e. h.1 (sym h.0.2 ∙ ap f e)), h.0.2))
      (counted_mapped n f one (without_one P k.0) k.2),
)

-- the indices of a list at which there is something
abbrev pub Stands : {X : Type 0} → List (Option X) → ℕ → Type 0
Stands xs k = is_some (slice_index_or xs k None) ≡ true

pub counted_some : {X : Type 0} (xs : List (Option X)) → AreExactly (count_by is_some xs) (Stands xs)
counted_some [] = λ k is. true≢false (sym is)
counted_some (None ∷ xs) = counted_alike (count_by is_some xs) (λ y. (x : ℕ) × Stands xs x × (suc x ≡ y)) (Stands (None ∷ xs))
    (λ y h. subst (Stands (None ∷ xs)) h.2 h.1) back (counted_mapped (count_by is_some xs) suc (λ x z e. omega (arith, e)) (Stands xs) (counted_some xs))
  where
    back : (y : ℕ) → Stands (None ∷ xs) y → (x : ℕ) × Stands xs x × (suc x ≡ y)
    back zero is = absurd (true≢false (sym is))
    back (suc y) is = (y, is, refl)
counted_some (Some v ∷ xs) = subst (λ n. AreExactly n (Stands (Some v ∷ xs))) more (
  0,
  refl,
  counted_alike (count_by is_some xs) (λ y. (x : ℕ) × Stands xs x × (suc x ≡ y))
      (without_one (Stands (Some v ∷ xs)) 0)
      (λ y h. (subst (Stands (Some v ∷ xs)) h.2 h.1, λ e. absurd (omega (arith, h.2, e)))) back
      (counted_mapped (count_by is_some xs) suc (λ x z e. omega (arith, e)) (Stands xs) (counted_some xs)),
)
  where
    more : suc (count_by is_some xs) ≡ count_by is_some (Some v ∷ xs)
    more = omega (arith, sum_by-cons (λ o. cond (is_some o) 1 0) (Some v) xs)

    back : (y : ℕ) → without_one (Stands (Some v ∷ xs)) 0 y → (x : ℕ) × Stands xs x × (suc x ≡ y)
    back zero h = absurd (h.1 refl)
    back (suc y) h = (y, h.0, refl)

-- at least one is counted
first_counted : {X : Type 0} (n : ℕ) (P : X → Type 0) → 0 < n → AreExactly n P → (x : X) × P x
first_counted zero P some k = absurd (omega (arith, some))
first_counted (suc n) P some k = (k.0, k.1)

-- a place by its id
abbrev place_at : GenerationalBoxId → Place
place_at id = at_slot id.store id.slot 0 id.generation

module _ {T : Type 0} where
  -- a part counts the places that refer to it
  pub part_counted : (D : DocumentState T) (p : Place) (part : Part T) → IsDocumentKept D.state D.parts D.sites
      → part_at D.parts (part_in D p) ≡ Some part → PartHasPlaces D p part.places
  part_counted D p part kept at = by (part_in D p) at
    where
      by : (key : Option ℕ) → part_at D.parts key ≡ Some part → AreExactly part.places (λ id. key_in D.state id ≡ key)
      by None at = cc
      by (Some key) at = subst (λ n. AreExactly n (Leads D.state key)) (ap places_of at) (kept.counted key)

  -- the only one is alone
  pub only_place : (D : DocumentState T) (p : Place) (n : ℕ) → n ≤ 1 → PartHasPlaces D p n → IsOnlyPlace D p
  only_place D p zero few none q other same = none (id_in p) refl
  only_place D p (suc zero) few one q other same =
      other (counted_one one_or_two (λ id. key_in D.state id ≡ part_in D p) (id_in p) (id_in q) refl same one)
  only_place D p (suc (suc n)) few more q other same = absurd (omega (arith, few))

  -- where there is no place, none shows anything
  pub none_shown : (D : DocumentState T) → HasPlaces D 0 → (q : Place) → shown_in D q ≡ None
  none_shown D none q = by (part_in D q) refl
    where
      by : (key : Option ℕ) → part_in D q ≡ key → shown_in D q ≡ None
      by None gone = ap (λ o. shown_of (part_at D.parts o)) gone
      by (Some key) is = absurd (none (id_in q) (ap is_some is))

  -- and where none shows anything, there is no place
  pub none_live : (D : DocumentState T) → IsDocumentKept D.state D.parts D.sites
      → ((q : Place) → shown_in D q ≡ None) → HasPlaces D 0
  none_live D kept all id is =
      true≢false (sym is ∙ (sym (live_shows kept (place_at id)) ∙ ap is_some (all (place_at id))))

  -- each part has a place
  pub parts_counted : (D : DocumentState T) → IsDocumentKept D.state D.parts D.sites
      → HasParts D (count_by is_some D.parts)
  parts_counted D kept = counted_alike (count_by is_some D.parts) (Stands D.parts)
      (λ key. (p : Place) × (part_in D p ≡ Some key)) (λ key is. has key (slice_index_or D.parts key None) refl is)
      (λ key at. ap is_some (led_part kept (id_in at.0) key at.1).1) (counted_some D.parts)
    where
      has : (key : ℕ) (row : Option (Part T)) → slice_index_or D.parts key None ≡ row → is_some row ≡ true
          → (p : Place) × (part_in D p ≡ Some key)
      has key None at is = absurd (true≢false (sym is))
      has key (Some part) at is =
          let told = subst (IsTold D.sites) at (kept.told key) in
          let all = subst (λ row. AreExactly (places_of row) (Leads D.state key)) at (kept.counted key) in
          let one = first_counted part.places (Leads D.state key) told.1 all in (place_at one.0, one.1)
