-- Rows, how many hold a value, and the list of those.
use Rattle.std.proofs.Common.{◌≡◌, ◌≢◌, ◌<◌, ◌≤◌, ◌+◌, ◌-◌, ◌^◌, ◌∙◌, ◌++◌, ℕ, zero, suc, List, [], ◌∷◌, Option, None, Some, true}
use Rattle.std.proofs.Common.{length, map, refl, ap, sym, arith, take, slice_get, slice_set, slice_index_or, is_some, IfSome, IfNone, add-one}
use Rattle.std.proofs.lemmas.List.{get_or-set_other, get_or-set_same, get_or_past, length-set}
use Rattle.handles.specs.declared.handle.Handle.{Handle}
use Rattle.handles.specs.declared.map.Row.{Row}
use Rattle.handles.specs.declared.map.Row.TheVariants.{Held, Vacant}
use Rattle.std.proofs.lemmas.List.{set_past}
use Rattle.std.proofs.lemmas.List.Elements.{All-cons, All-nil}
use Rattle.std.proofs.lemmas.Option.{same_Some}
use Rattle.std.specs.List.{All}
use Rattle.std.specs.List.Sorted.{IsStrictlyIncreasing}
use Rattle.generational_core.specs.declared.boxes.GenerationalBoxId.{GenerationalBoxId}
use Rattle.std.proofs.lemmas.List.{length-map, length-take-le, map-append, take_more}
use Rattle.std.proofs.lemmas.Option.{get_or_from_slice_get, slice_get_within}
use Rattle.handles.specs.Handles.{at_slot, id_in, IsOther, IsSame, slot_in}
use Rattle.handles.specs.Maps.{count, listed, listed_from, MapState, refilled, row_at, value_of}

-- a number before others that rise, of which each is above it
rises_more : (x : ℕ) (xs : List ℕ) → All (λ y. x < y) xs
    → IsStrictlyIncreasing xs → IsStrictlyIncreasing (x ∷ xs)
rises_more x xs low rising zero lt = low 0 0 (omega (arith, lt))
rises_more x xs low rising (suc k) lt =
    rw (add-one (suc k), ← add-one k) (rising k (omega (arith, lt, add-one (suc k), add-one k)))

module _ {V : Type 0} where
  -- ==== how many rows hold a value

  pub one : Row V → ℕ
  one Vacant = 0
  one (Held site generation v) = 1

  pub counted_first : (r : Row V) (rows : List (Row V)) → count (r ∷ rows) ≡ count rows + one r
  unfolding one
  counted_first Vacant rows = omega arith
  counted_first (Held site generation v) rows = refl

  pub count_set : (rows : List (Row V)) (slot : ℕ) (r : Row V) → slot < length rows
      → count (slice_set rows slot r) + one (row_at rows slot) ≡ count rows + one r
  count_set [] slot r lt = absurd (omega (arith, lt))
  count_set (x ∷ rows) zero r lt = omega (arith, counted_first x rows, counted_first r rows)
  count_set (x ∷ rows) (suc slot) r lt =
      omega (arith, counted_first x rows, counted_first x (slice_set rows slot r), count_set rows slot r (omega (arith, lt)))

  pub count_most : (rows : List (Row V)) → count rows ≤ length rows
  count_most [] = omega arith
  count_most (Vacant ∷ rows) = omega (arith, count_most rows)
  count_most (Held site generation v ∷ rows) = omega (arith, count_most rows)

  pub count_pushed : (rows : List (Row V)) → count (rows ++ Vacant ∷ []) ≡ count rows
  count_pushed [] = refl
  count_pushed (Vacant ∷ rows) = count_pushed rows
  count_pushed (Held site generation v ∷ rows) = ap (λ n. n + 1) (count_pushed rows)

  pub row_pushed : (rows : List (Row V)) (at : ℕ) → row_at (rows ++ Vacant ∷ []) at ≡ row_at rows at
  row_pushed [] zero = refl
  row_pushed [] (suc at) = refl
  row_pushed (r ∷ rows) zero = refl
  row_pushed (r ∷ rows) (suc at) = row_pushed rows at

  -- a row that replaces another, read at its slot
  pub replaced : (rows : List (Row V)) (slot : ℕ) (x r : Row V) → slot < length rows → x ≡ slice_index_or rows slot x
      → count (slice_set rows slot r) + one x ≡ count rows + one r
  replaced [] slot x r lt is = absurd (omega (arith, lt))
  replaced (y ∷ rows) zero x r lt is = omega (arith, counted_first y rows, counted_first r rows, ap one is)
  replaced (y ∷ rows) (suc slot) x r lt is = omega (
    arith,
    counted_first y rows,
    counted_first y (slice_set rows slot r),
    replaced rows slot x r (omega (arith, lt)) is,
  )

  module _ (rows : List (Row V)) (live slot : ℕ) (x r : Row V) (lt : slot < length rows)
      (is : x ≡ slice_index_or rows slot x) (counted : (live ≡ count rows) × (length rows ≤ 2 ^ 32)) where
    -- a value that is put into a vacant row, or into one that holds another, and one that is removed
    pub added : x ≡ Vacant → one r ≡ 1
        → (live + 1 ≡ count (slice_set rows slot r)) × (length (slice_set rows slot r) ≤ 2 ^ 32)
    unfolding one
    added was now = (
      omega (arith, replaced rows slot x r lt is, ap one was, now, counted.0),
      omega (arith, length-set rows slot r, counted.1),
    )

    pub kept : one x ≡ one r
        → (live ≡ count (slice_set rows slot r)) × (length (slice_set rows slot r) ≤ 2 ^ 32)
    kept same = (
      omega (arith, replaced rows slot x r lt is, same, counted.0),
      omega (arith, length-set rows slot r, counted.1),
    )

    pub taken : one x ≡ 1 → r ≡ Vacant
        → (live - 1 ≡ count (slice_set rows slot r)) × (length (slice_set rows slot r) ≤ 2 ^ 32)
    unfolding one
    taken was now = (
      omega (arith, replaced rows slot x r lt is, was, ap one now, counted.0),
      omega (arith, length-set rows slot r, counted.1),
    )

  pub some_live : (rows : List (Row V)) (live slot : ℕ) (x : Row V) → slot < length rows → x ≡ slice_index_or rows slot x
      → live ≡ count rows → one x ≡ 1 → 1 ≤ live
  unfolding one
  some_live rows live slot x lt is counted was = omega (arith, replaced rows slot x Vacant lt is, was, counted)

  pub one_held : (site generation : ℕ) (v : V) → one (Held site generation v) ≡ 1
  unfolding one
  one_held site generation v = refl

  pub one_refilled : (r : Row V) (v : V) → one (refilled r v) ≡ one r
  unfolding one
  one_refilled Vacant v = refl
  one_refilled (Held site generation w) v = refl

  -- a row that was changed, if it held the value
  pub one_changed : {R : Type 0} (o : Option R) (A B : R → V → V → Type 0) (N : Type 0) (x y : Row V)
      → IfSome o (λ r. (a : V) × (b : V) × A r a b × B r a b × (y ≡ refilled x b)) → IfNone o (N × (y ≡ x))
      → one x ≡ one y
  one_changed (Some r) A B N x y some none = sym (ap one some.4 ∙ one_refilled x some.1)
  one_changed None A B N x y some none = sym (ap one none.1)

  pub past : (rows : List (Row V)) (slot : ℕ) → length rows ≤ slot → row_at rows slot ≡ Vacant
  past rows slot le = get_or_past rows slot Vacant le

  pub value_within : {T K : Type 0} (m : MapState V) (h : Handle T K) → is_some (value_of m h) ≡ true
      → slot_in h < length m.rows
  value_within m h some = grind (arith, get_or_past m.rows (slot_in h) Vacant)

  -- how many there are in a beginning of the rows, and in it with the next one
  pub count_take : (rows : List (Row V)) (n : ℕ) → count (take n rows) ≤ count rows
  count_take rows zero = omega arith
  count_take [] (suc n) = omega arith
  count_take (Vacant ∷ rows) (suc n) = count_take rows n
  count_take (Held site generation v ∷ rows) (suc n) = omega (arith, count_take rows n)

  pub count_with : (rows : List (Row V)) (r : Row V) → count (rows ++ r ∷ []) ≡ count rows + count (r ∷ [])
  count_with [] r = omega arith
  count_with (Vacant ∷ rows) r = count_with rows r
  count_with (Held site generation v ∷ rows) r = omega (arith, count_with rows r)

  -- ==== the list of those that hold a value

  module _ (T K : Type 0) where
    pub listed_count : (number slot : ℕ) (rows : List (Row V))
        → length (listed_from {T = T} {K = K} number slot rows) ≡ count rows
    listed_count number slot [] = refl
    listed_count number slot (Vacant ∷ rows) = listed_count number (slot + 1) rows
    listed_count number slot (Held site generation v ∷ rows) =
        omega (arith, listed_count number (slot + 1) rows)

-- ==== what handles have after a row was filled, emptied or changed

module _ {V T K : Type 0} where
  pub put_here : (number : ℕ) (rows : List (Row V)) (h : Handle T K) (v : V) → h.store ≡ number
      → slot_in h < length rows
      → value_of (record { number = number; rows = slice_set rows (slot_in h) (Held h.site h.generation v) }) h ≡ Some v
  put_here number rows h v own lt = grind (arith, get_or-set_same)

  pub set_apart : (number : ℕ) (rows : List (Row V)) (h e : Handle T K) (r : Row V) → slot_in h ≢ slot_in e
      → value_of (record { number = number; rows = slice_set rows (slot_in h) r }) e
      ≡ value_of (record { number = number; rows = rows }) e
  set_apart number rows h e r ne = grind (arith, get_or-set_other)

  pub put_lost : (number : ℕ) (rows : List (Row V)) (h e : Handle T K) (v : V) → h.store ≡ number
      → slot_in h < length rows → slot_in h ≡ slot_in e → IsOther h e
      → value_of (record { number = number; rows = slice_set rows (slot_in h) (Held h.site h.generation v) }) e ≡ None
  put_lost number rows h e v own lt slot other = grind (arith, get_or-set_same)

  pub emptied_here : (number : ℕ) (rows : List (Row V)) (h e : Handle T K) → slot_in h ≡ slot_in e
      → value_of (record { number = number; rows = slice_set rows (slot_in h) Vacant }) e ≡ None
  emptied_here number rows h e slot = grind (arith, get_or-set_same, set_past, get_or_past)

  -- two handles of one slot that show something are of one value
  pub one_slot : (m : MapState V) (a b : Handle T K) → is_some (value_of m a) ≡ true
      → is_some (value_of m b) ≡ true → slot_in a ≡ slot_in b → IsSame a b
  one_slot m a b one other slot = grind arith

  -- ==== rows that hold the same, with more vacant ones

  pub same_values : (number : ℕ) (rows more : List (Row V)) (h : Handle T K)
      → ((at : ℕ) → row_at more at ≡ row_at rows at)
      → value_of (record { number = number; rows = more }) h ≡ value_of (record { number = number; rows = rows }) h
  same_values number rows more h same = rw (same (slot_in h)) refl

  pub same_listed : (number slot : ℕ) (rows more : List (Row V)) → ((at : ℕ) → row_at more at ≡ row_at rows at)
      → listed_from {T = T} {K = K} number slot more ≡ listed_from number slot rows
  same_listed number slot [] [] same = refl
  same_listed number slot [] (r ∷ more) same =
      grind (arith, same 0, same_listed number (slot + 1) [] more (λ at. same (suc at)))
  same_listed number slot (r ∷ rows) [] same =
      grind (arith, same 0, same_listed number (slot + 1) rows [] (λ at. same (suc at)))
  same_listed number slot (r ∷ rows) (q ∷ more) same =
      grind (arith, same 0, same_listed number (slot + 1) rows more (λ at. same (suc at)))

  -- a row more at the end
  pub listed_with : (number slot at : ℕ) (rows : List (Row V)) (r : Row V) → at ≡ slot + length rows
      → listed_from {T = T} {K = K} number slot (rows ++ r ∷ []) ≡ listed_from number slot rows ++ listed_from number at (r ∷ [])
  listed_with number slot at [] r is = ap (λ s. listed_from number s (r ∷ [])) (omega (arith, is))
  listed_with number slot at (Vacant ∷ rows) r is = listed_with number (slot + 1) at rows r (omega (arith, is))
  listed_with number slot at (Held site generation v ∷ rows) r is =
      ap (λ rest. (at_slot number slot site generation, v) ∷ rest) (listed_with number (slot + 1) at rows r (omega (arith, is)))

  -- ==== the list of handles

  -- a listed one is that of a slot, from the first on
  pub listed_at : (number slot : ℕ) (rows : List (Row V)) (i : ℕ) (h : Handle T K) (v : V)
      → slice_get (listed_from number slot rows) i ≡ Some (h, v)
      → (k : ℕ) × (h.slot ≡ slot + k) × (h.store ≡ number) × (row_at rows k ≡ Held h.site h.generation v)
  listed_at number slot [] i h v is = cc
  listed_at number slot (Vacant ∷ rows) i h v is =
      let at = listed_at number (slot + 1) rows i h v is in (suc at.0, omega (arith, at.1), at.2, at.3)
  listed_at number slot (Held site generation w ∷ rows) zero h v is = (
    0,
    omega (arith, ap (λ (p : Handle T K × V). p.0.slot) (sym (same_Some _ _ is))),
    ap (λ (p : Handle T K × V). p.0.store) (sym (same_Some _ _ is)),
    ap (λ (p : Handle T K × V). Held p.0.site p.0.generation p.1) (same_Some _ _ is),
  )
  listed_at number slot (Held site generation w ∷ rows) (suc i) h v is =
      let at = listed_at number (slot + 1) rows i h v is in (suc at.0, omega (arith, at.1), at.2, at.3)

  -- and each slot's is listed
  listed_there : (number slot : ℕ) (rows : List (Row V)) (k site generation : ℕ) (v : V)
      → row_at rows k ≡ Held site generation v
      → (i : ℕ) × (f : Handle T K) × (slice_get (listed_from number slot rows) i ≡ Some (f, v))
      × (f.store ≡ number) × (f.slot ≡ slot + k) × (f.generation ≡ generation)
  listed_there number slot [] k site generation v is = cc
  listed_there number slot (Vacant ∷ rows) zero site generation v is = cc
  listed_there number slot (Vacant ∷ rows) (suc k) site generation v is =
      let at = listed_there number (slot + 1) rows k site generation v is in
      (at.0, at.1, at.2, at.3, omega (arith, at.4), at.5)
  listed_there number slot (Held s g w ∷ rows) zero site generation v is =
      (0, at_slot number slot s g, grind arith, refl, omega arith, grind arith)
  listed_there number slot (Held s g w ∷ rows) (suc k) site generation v is =
      let at = listed_there number (slot + 1) rows k site generation v is in
      (suc at.0, at.1, at.2, at.3, omega (arith, at.4), at.5)

  -- the handle of a slot's row is listed
  pub listed_row : (number slot : ℕ) (rows : List (Row V)) (k site generation : ℕ) (v : V)
      → row_at rows k ≡ Held site generation v
      → (i : ℕ) × (slice_get (listed_from {T = T} {K = K} number slot rows) i ≡ Some (at_slot number (slot + k) site generation, v))
  listed_row number slot [] k site generation v is = cc
  listed_row number slot (Vacant ∷ rows) zero site generation v is = cc
  listed_row number slot (Vacant ∷ rows) (suc k) site generation v is =
      let at = listed_row number (slot + 1) rows k site generation v is in
      (at.0, at.1 ∙ ap (λ s. Some (at_slot number s site generation, v)) (omega arith))
  listed_row number slot (Held s g w ∷ rows) zero site generation v is = (0, grind arith)
  listed_row number slot (Held s g w ∷ rows) (suc k) site generation v is =
      let at = listed_row number (slot + 1) rows k site generation v is in
      (suc at.0, at.1 ∙ ap (λ s. Some (at_slot number s site generation, v)) (omega arith))

  pub listed_shown : (m : MapState V) (i : ℕ) (h : Handle T K) (v : V) → slice_get (listed m) i ≡ Some (h, v)
      → value_of m h ≡ Some v
  listed_shown m i h v is = let at = listed_at m.number 0 m.rows i h v is in grind (arith, at.1, at.2, at.3)

  value_held : (m : MapState V) (h : Handle T K) (v : V) → value_of m h ≡ Some v
      → (h.store ≡ m.number) × ((site : ℕ) × (row_at m.rows (slot_in h) ≡ Held site h.generation v))
  value_held m h v is = held_in (row_at m.rows (slot_in h)) refl
    where
      held_in : (r : Row V) → row_at m.rows (slot_in h) ≡ r
          → (h.store ≡ m.number) × ((site : ℕ) × (row_at m.rows (slot_in h) ≡ Held site h.generation v))
      held_in Vacant at = grind arith
      held_in (Held site generation w) at = (grind arith, (site, grind arith))

  pub listed_every : (m : MapState V) (h : Handle T K) (v : V) → value_of m h ≡ Some v
      → (i : ℕ) × (f : Handle T K) × (slice_get (listed m) i ≡ Some (f, v)) × IsSame f h
  listed_every m h v is =
      let own = value_held m h v is in
      let at = listed_there m.number 0 m.rows (slot_in h) own.1.0 h.generation v own.1.1 in
      (at.0, at.1, at.2, grind (arith, at.3, at.4, at.5, own.0))

module _ {V : Type 0} (T K : Type 0) where
  -- the slots rise
  above : (number slot : ℕ) (rows : List (Row V))
      → IsStrictlyIncreasing (map (λ p. slot_in p.0) (listed_from {T = T} {K = K} number slot rows))
      × All (λ y. slot ≤ y) (map (λ p. slot_in p.0) (listed_from {T = T} {K = K} number slot rows))
  above number slot [] = (λ k lt. absurd (omega (arith, lt)), All-nil (λ y. slot ≤ y))
  above number slot (Vacant ∷ rows) =
      let rest = above number (slot + 1) rows in (rest.0, λ k d lt. omega (arith, rest.1 k d lt))
  above number slot (Held site generation v ∷ rows) =
      let rest = above number (slot + 1) rows in (
        rises_more slot _ (λ k d lt. omega (arith, rest.1 k d lt)) rest.0,
        All-cons (λ y. slot ≤ y) slot _ (omega arith) (λ k d lt. omega (arith, rest.1 k d lt)),
      )

  pub listed_rise : (m : MapState V) → IsStrictlyIncreasing (map (λ p. slot_in p.0) (listed {T = T} {K = K} m))
  listed_rise m = (above m.number 0 m.rows).0

pub one_vacant : (V : Type 0) → one {V = V} Vacant ≡ 0
unfolding one
one_vacant V = refl

-- ==== values with their ids

module _ (T K : Type 0) {V : Type 0} where
  abbrev pub with_ids : List (Handle T K × V) → List (GenerationalBoxId × V)
  with_ids ps = map (λ p. (id_in p.0, p.1)) ps

  pub ids_with : (number slot : ℕ) (rows : List (Row V)) (r : Row V) → slot ≡ length rows
      → with_ids (listed_from number 0 (rows ++ r ∷ []))
      ≡ with_ids (listed_from number 0 rows) ++ with_ids (listed_from number slot (r ∷ []))
  ids_with number slot rows r is = ap with_ids (listed_with number 0 slot rows r (omega (arith, is)))
      ∙ map-append (λ (p : Handle T K × V). (id_in p.0, p.1)) (listed_from number 0 rows) (listed_from number slot (r ∷ []))

  pub ids_count : (number : ℕ) (rows : List (Row V)) → length (with_ids (listed_from number 0 rows)) ≡ count rows
  ids_count number rows = length-map (listed_from number 0 rows) (λ (p : Handle T K × V). (id_in p.0, p.1))
      ∙ listed_count T K number 0 rows

  -- a beginning of rows with the next one
  taken_row : (rows : List (Row V)) (n : ℕ) (r : Row V) → slice_get rows n ≡ Some r
      → take (n + 1) rows ≡ take n rows ++ r ∷ []
  taken_row rows n r is = take_more rows n r (slice_get_within rows n r is)
      ∙ ap (λ x. take n rows ++ x ∷ []) (get_or_from_slice_get rows n r r is)

  -- there is room for the next row's value, and with it the values are those of one row more
  pub room_for : (number : ℕ) (rows : List (Row V)) (n : ℕ) (r : Row V) (items : List (GenerationalBoxId × V)) (cap : ℕ)
      → slice_get rows n ≡ Some r → items ≡ with_ids (listed_from number 0 (take n rows)) → count rows ≤ cap
      → length items + count (r ∷ []) ≤ cap
  room_for number rows n r items cap is same room = omega (
    arith,
    ap length same,
    ids_count number (take n rows),
    count_take rows (n + 1),
    ap count (taken_row rows n r is),
    count_with (take n rows) r,
    room,
  )

  pub values_more : (number : ℕ) (rows : List (Row V)) (n : ℕ) (r : Row V) (items next : List (GenerationalBoxId × V))
      → slice_get rows n ≡ Some r → items ≡ with_ids (listed_from number 0 (take n rows))
      → next ≡ items ++ with_ids (listed_from number n (r ∷ []))
      → next ≡ with_ids (listed_from number 0 (take (n + 1) rows))
  values_more number rows n r items next is same pushed =
      pushed ∙ (ap (λ xs. xs ++ with_ids (listed_from number n (r ∷ []))) same
      ∙ (sym (ids_with number n (take n rows) r
      (sym (length-take-le n rows (omega (arith, slice_get_within rows n r is)))))
      ∙ ap (λ rows. with_ids (listed_from number 0 rows)) (sym (taken_row rows n r is))))
