-- The rows of all children, listed from the roots on.
use Rattle.scene_tree.proofs.Moving.{above, above_parent, ap, append_assoc, append-nil, AreNodesNoted, arith, Bool, both_each}
use Rattle.scene_tree.proofs.Moving.{cases_Bool, cases_eq, cases_lt, children_at, children_none, children_of, children_some}
use Rattle.scene_tree.proofs.Moving.{count_apart, count_at, count_both, count_here, count_more, count_take, counted, counts, Each, Family}
use Rattle.scene_tree.proofs.Moving.{families, flat_each, flat_map_more, GenerationalBoxId, get_or, gone_family, id_in}
use Rattle.scene_tree.proofs.Moving.{is_id as handle_is, is_live, is_same, is_some, IsTreeKept, IsLiveIn, IsRooted, IsSound}
use Rattle.scene_tree.proofs.Moving.{length, length-append, length-map, Link, List, live_children, live_parent, live_slot, map}
use Rattle.scene_tree.proofs.Moving.{no_cycle, Node, None, none-some, one_live, Option, option_map, parent_at, parent_is, parent_of}
use Rattle.scene_tree.proofs.Moving.{refl, same_Some, short, slice_get, slice_get-get_or, slice_get-map}
use Rattle.scene_tree.proofs.Moving.{slot_cases, slot_in, slot_of, slot_within, Some, State, subst, suc, sym, take, take-append-le}
use Rattle.scene_tree.proofs.Moving.{take_all, take_more, times, times_apart, times_gone, times_live, times_more, true, true≢false}
use Rattle.scene_tree.proofs.Moving.{zero, false, ℕ, [], ⊎_elim, ◌++◌, ◌+◌, ◌<◌, ◌∙◌, ◌∷◌, ◌≡◌, ◌≢◌, ◌≤◌}
use Rattle.scene_tree.proofs.Moving.{and_parts, is_met, node_in, noted, parent_from, pointer_in, same_shown, upper, value_in, ◌&&◌}
use Rattle.scene_tree.proofs.Parting.{children_old, id_is, is_of, live_as, not_id, other_id, parent_old, fit_more, fit_none}
use Rattle.scene_tree.specs.Building.{AreListed, AreRowsOf, children_below, row_of, rows_below, rows_under, tree_of}
use Rattle.scene_tree.specs.Parts.{AreChildRows, children_told, is_id, IsNewRow, parent_told}
use Rattle.scene_tree.specs.declared.parts.ChildRow.{ChildRow}
use Rattle.std.proofs.lemmas.List.{map-append}
use Rattle.std.proofs.lemmas.Simd.{map-map}
use Rattle.std.specs.Prelude.{not}

-- ==== what rows list

-- an element of a list that is mapped
mapped : {A B : Type 0} (f : A → B) (xs : List A) (i : ℕ) (y : B) → slice_get (map f xs) i ≡ Some y
    → (x : A) × (f x ≡ y) × (slice_get xs i ≡ Some x)
mapped f [] i y is = cc
mapped f (x ∷ xs) zero y is = (x, same_Some _ _ is, refl)
mapped f (x ∷ xs) (suc i) y is = mapped f xs i y is

no_parent : (xs : List ChildRow) (id : GenerationalBoxId) → Each (λ r. r.child ≢ id) xs → parent_told xs id ≡ None
no_parent [] id each = refl
no_parent (r ∷ xs) id each =
    grind (arith, not_id r.child id (each 0 r refl), no_parent xs id (λ i. each (suc i)))

no_children : (xs : List ChildRow) (id : GenerationalBoxId) → Each (λ r. r.parent ≢ id) xs → children_told xs id ≡ []
no_children [] id each = refl
no_children (r ∷ xs) id each =
    grind (arith, not_id r.parent id (each 0 r refl), no_children xs id (λ i. each (suc i)))

-- a row lists a parent, and all rows of the child list the same
parent_found : (xs : List ChildRow) (id q : GenerationalBoxId) (k : ℕ) (r : ChildRow) → slice_get xs k ≡ Some r
    → r.child ≡ id → Each (λ r. r.child ≡ id → r.parent ≡ q) xs → parent_told xs id ≡ Some q
parent_found [] id q k r is own each = absurd (none-some r is)
parent_found (x ∷ xs) id q k r is own each =
    by (is_id x.child id) refl k is (λ j at. parent_found xs id q j r at own (λ i. each (suc i)))
  where
    by : (b : Bool) → is_id x.child id ≡ b → (j : ℕ) → slice_get (x ∷ xs) j ≡ Some r
        → ((i : ℕ) → slice_get xs i ≡ Some r → parent_told xs id ≡ Some q) → parent_told (x ∷ xs) id ≡ Some q
    by true here j at rest = rw here (ap Some (each 0 x refl (id_is x.child id here)))
    by false other zero at rest =
        absurd (true≢false (sym (is_of x.child id (ap (λ (r : ChildRow). r.child) (same_Some x r at) ∙ own)) ∙ other))
    by false other (suc j) at rest = rw other (rest j at)

told_append : (xs ys : List ChildRow) (id : GenerationalBoxId)
    → children_told (xs ++ ys) id ≡ children_told xs id ++ children_told ys id
told_append [] ys id = refl
told_append (r ∷ xs) ys id = grind (arith, told_append xs ys id, cases_Bool (is_id r.parent id))

module _ {T : Type 0} where
  told_under : (m n : Node T) (cs : List (Node T)) → id_in m ≡ id_in n
      → children_told (map (row_of m) cs) (id_in n) ≡ map id_in cs
  told_under m n [] same = refl
  told_under m n (c ∷ cs) same =
      rw (is_of (id_in m) (id_in n) same) (ap (λ ids. id_in c ∷ ids) (told_under m n cs same))

  told_other : (m n : Node T) (cs : List (Node T)) → id_in m ≢ id_in n
      → children_told (map (row_of m) cs) (id_in n) ≡ []
  told_other m n [] ne = refl
  told_other m n (c ∷ cs) ne = rw (not_id (id_in m) (id_in n) ne) (told_other m n cs ne)

module _ {T : Type 0} (fs : List (Family T)) where
  -- what holds of the row of each child holds of each
  each_below : (P : ChildRow → Type 0) (done : List (Node T))
      → ((i : ℕ) (n : Node T) → slice_get done i ≡ Some n → (j : ℕ) (c : Node T)
      → slice_get (children_at fs (slot_in n)) j ≡ Some c → P (row_of n c))
      → Each P (rows_below fs done)
  each_below P [] each = λ i r is. absurd (none-some r is)
  each_below P (n ∷ done) each = both_each P (rows_under fs n) (rows_below fs done)
      (λ i r is. let from = mapped (row_of n) (children_at fs (slot_in n)) i r is in
      subst P from.1 (each 0 n refl i from.0 from.2))
      (each_below P done (λ i. each (suc i)))

  -- the children of the rows, in order
  children_ids : (done : List (Node T)) → map (λ (r : ChildRow). r.child) (rows_below fs done) ≡ map id_in (children_below fs done)
  children_ids [] = refl
  children_ids (n ∷ done) =
      let cs = children_at fs (slot_in n) in
      map-append (λ (r : ChildRow). r.child) (rows_under fs n) (rows_below fs done)
      ∙ (ap (λ xs. xs ++ map (λ (r : ChildRow). r.child) (rows_below fs done)) (map-map (λ (r : ChildRow). r.child) (row_of n) cs)
      ∙ (ap (λ xs. map id_in cs ++ xs) (children_ids done) ∙ sym (map-append id_in cs (children_below fs done))))

  rows_length : (done : List (Node T)) → length (rows_below fs done) ≡ length (children_below fs done)
  rows_length done = sym (length-map (rows_below fs done) (λ (r : ChildRow). r.child))
      ∙ (ap length (children_ids done) ∙ length-map (children_below fs done) id_in)

  -- of a node the rows list its children, if it is listed once
  told_absent : (n : Node T) (done : List (Node T)) → times n done ≡ 0 → children_told (rows_below fs done) (id_in n) ≡ []
  told_absent n [] none = refl
  told_absent n (d ∷ done) none = by (is_same d n) refl (told_absent n done)
    where
      by : (b : Bool) → is_same d n ≡ b
          → (times n done ≡ 0 → children_told (rows_below fs done) (id_in n) ≡ [])
          → children_told (rows_below fs (d ∷ done)) (id_in n) ≡ []
      by true same rest = absurd (omega (arith, none, times_more n d done same))
      by false other rest = told_append (rows_under fs d) (rows_below fs done) (id_in n)
          ∙ (ap (λ xs. xs ++ children_told (rows_below fs done) (id_in n))
          (told_other d n (children_at fs (slot_in d)) (other_id d n other))
          ∙ rest (sym (times_apart n d done other) ∙ none))

  told_once : (n : Node T) (done : List (Node T)) → times n done ≡ 1
      → children_told (rows_below fs done) (id_in n) ≡ map id_in (children_at fs (slot_in n))
  told_once n [] one = absurd (omega (arith, one))
  told_once n (d ∷ done) one = by (is_same d n) refl (told_once n done)
    where
      by : (b : Bool) → is_same d n ≡ b
          → (times n done ≡ 1 → children_told (rows_below fs done) (id_in n) ≡ map id_in (children_at fs (slot_in n)))
          → children_told (rows_below fs (d ∷ done)) (id_in n) ≡ map id_in (children_at fs (slot_in n))
      by true same once =
          let id = handle_is d n same in
          let rest : times n done ≡ 0 = omega (arith, one, times_more n d done same) in
          told_append (rows_under fs d) (rows_below fs done) (id_in n)
          ∙ (ap (λ xs. xs ++ children_told (rows_below fs done) (id_in n)) (told_under d n (children_at fs (slot_in d)) id)
          ∙ (ap (λ xs. map id_in (children_at fs (slot_in d)) ++ xs) (told_absent n done rest)
          ∙ (append-nil (map id_in (children_at fs (slot_in d)))
          ∙ ap (λ i. map id_in (children_at fs i.slot)) id)))
      by false other once = told_append (rows_under fs d) (rows_below fs done) (id_in n)
          ∙ (ap (λ xs. xs ++ children_told (rows_below fs done) (id_in n))
          (told_other d n (children_at fs (slot_in d)) (other_id d n other))
          ∙ once (sym (times_apart n d done other) ∙ one))

  below_more : (done : List (Node T)) (n : Node T)
      → children_below fs (done ++ n ∷ []) ≡ children_below fs done ++ children_at fs (slot_in n)
  below_more done n = sym (flat_map_more (λ (m : Node T). children_at fs (slot_in m)) [] done n)

  rows_below_more : (done : List (Node T)) (n : Node T)
      → rows_below fs (done ++ n ∷ []) ≡ rows_below fs done ++ rows_under fs n
  rows_below_more done n = sym (flat_map_more (rows_under fs) [] done n)

-- ==== rows of the children of one more node

module _ {T : Type 0} {S : State T} where
  under_more : (xs : List ChildRow) → AreChildRows S xs → (n : Node T) → IsLiveIn S n → (cs : List (Node T))
      → Each (λ c. IsLiveIn S c × (id_in n ≢ id_in c) × (parent_told xs (id_in c) ≡ None)
      × (children_told xs (id_in c) ≡ [])) cs
      → ((s : ℕ) → count_at s cs ≤ 1) → AreChildRows S (xs ++ map (row_of n) cs)
  under_more xs fits n live [] each once = subst (AreChildRows S) (sym (append-nil xs)) fits
  under_more xs fits n live (c ∷ cs) each once =
      let here = each 0 c refl in
      let new : IsNewRow xs (row_of n c) = record { root = here.2; childless = here.3; apart = here.1 } in
      subst (AreChildRows S) (append_assoc xs (row_of n c ∷ []) (map (row_of n) cs))
      (under_more (xs ++ row_of n c ∷ []) (fit_more xs (row_of n c) fits (c, refl, here.0) (n, refl, live) new) n live cs
      (λ i d is. let old = each (suc i) d is in (
        old.0,
        old.1,
        parent_old xs (row_of n c) (id_in d) (apart i d is) ∙ old.2,
        children_old xs (row_of n c) (id_in d) old.1 ∙ old.3,
      ))
      (λ s. omega (arith, once s, count_more s c cs)))
    where
      apart : (i : ℕ) (d : Node T) → slice_get cs i ≡ Some d → id_in c ≢ id_in d
      apart i d is same = omega (
        arith,
        once (slot_in c),
        count_here (slot_in c) c cs refl,
        counts (slot_in c) cs i d is (ap (λ (j : GenerationalBoxId). j.slot) (sym same)),
      )

module _ {T : Type 0} {S : State T} {fs : List (Family T)} (k : IsTreeKept S fs) where
  module _ (roots done : List (Node T)) (next : ℕ)
      (sums : (s : ℕ) → count_at s done ≡ count_at s roots + count_at s (take next (children_below fs done)))
      (tops : (s : ℕ) → 0 < count_at s roots → above fs s ≡ None) where
    no_root : (s up : ℕ) → above fs s ≡ Some up → count_at s roots ≡ 0
    no_root s up is = ⊎_elim (λ lt. absurd (none-some up (sym (tops s lt) ∙ is))) (λ le. omega (arith, le))
        (cases_lt 0 (count_at s roots))

    -- a child of a node that isn't listed isn't listed either
    child_absent : (c n : Node T) → above fs (slot_in c) ≡ Some (slot_in n) → count_at (slot_in n) done ≡ 0
        → count_at (slot_in c) done ≡ 0
    child_absent c n over none = omega (
      arith,
      sums (slot_in c),
      no_root (slot_in c) (slot_in n) over,
      none,
      count_take (slot_in c) (children_below fs done) next,
      children_some fs k.forest (slot_in c) (slot_in n) over done,
    )

    module _ (once : (s : ℕ) → count_at s roots ≤ 1) where
      done_at : (d s : ℕ) → IsRooted fs d s → count_at s done ≤ 1
      done_at zero s r = omega (
        arith,
        sums s,
        children_none fs k.forest s r done,
        count_take s (children_below fs done) next,
        once s,
      )
      done_at (suc d) s r = omega (
        arith,
        sums s,
        children_some fs k.forest s r.0 r.1 done,
        count_take s (children_below fs done) next,
        no_root s r.0 r.1,
        done_at d r.0 r.2,
      )

      pub done_once : (s : ℕ) → count_at s done ≤ 1
      done_once s = let r = k.forest.rooted s in done_at r.0 s r.1

      -- so the children are no more than the slots
      below_once : (s : ℕ) → count_at s (children_below fs done) ≤ 1
      below_once s = by (above fs s) refl
        where
          by : (o : Option ℕ) → above fs s ≡ o → count_at s (children_below fs done) ≤ 1
          by None is = omega (arith, children_none fs k.forest s is done)
          by (Some up) is = omega (arith, children_some fs k.forest s up is done, done_once up)

      pub below_short : length (children_below fs done) ≤ length fs
      below_short = short (children_below fs done) (length fs) below_once (λ s lt. by s lt (above fs s) refl)
        where
          by : (s : ℕ) → 0 < count_at s (children_below fs done) → (o : Option ℕ) → above fs s ≡ o → s < length fs
          by s lt None is = absurd (omega (arith, lt, children_none fs k.forest s is done))
          by s lt (Some up) is = slot_within fs s up is

  child_once : (n : Node T) (s : ℕ) → count_at s (children_at fs (slot_in n)) ≤ 1
  child_once n s = ⊎_elim (λ is. omega (arith, k.forest.once s (slot_in n) is))
      (λ ne. omega (arith, k.forest.only s (slot_in n) ne)) (slot_cases (above fs s) (slot_in n))

  -- the rows of a node that isn't listed, and whose children aren't, fit behind the others
  fits_under : (done : List (Node T)) (n : Node T) → IsLiveIn S n → count_at (slot_in n) done ≡ 0
      → ((c : Node T) → above fs (slot_in c) ≡ Some (slot_in n) → count_at (slot_in c) done ≡ 0)
      → AreChildRows S (rows_below fs done) → AreChildRows S (rows_below fs done ++ rows_under fs n)
  fits_under done n live fresh below fits = under_more (rows_below fs done) fits n live (children_at fs (slot_in n))
      (λ i c is.
      let over = parent_is fs k.forest (slot_in n) i c is in
      (k.children (slot_in n) i c is, self c over, rootless c over, childless c over))
      (child_once n)
    where
      self : (c : Node T) → above fs (slot_in c) ≡ Some (slot_in n) → id_in n ≢ id_in c
      self c over same = let r = k.forest.rooted (slot_in c) in
          no_cycle fs r.0 (slot_in c) (slot_in n) 0 r.1 over (ap (λ (i : GenerationalBoxId). i.slot) same)

      rootless : (c : Node T) → above fs (slot_in c) ≡ Some (slot_in n) → parent_told (rows_below fs done) (id_in c) ≡ None
      rootless c over = no_parent (rows_below fs done) (id_in c) (each_below fs (λ r. r.child ≢ id_in c) done
          (λ i m is j d at same.
          let up = parent_is fs k.forest (slot_in m) j d at in
          let one : slot_in m ≡ slot_in n =
          same_Some _ _ (sym up ∙ (ap (λ (i : GenerationalBoxId). above fs i.slot) same ∙ over)) in
          omega (arith, fresh, counts (slot_in n) done i m is one)))

      childless : (c : Node T) → above fs (slot_in c) ≡ Some (slot_in n) → children_told (rows_below fs done) (id_in c) ≡ []
      childless c over = no_children (rows_below fs done) (id_in c) (each_below fs (λ r. r.parent ≢ id_in c) done
          (λ i m is j d at same. omega (
            arith,
            below c over,
            counts (slot_in c) done i m is (ap (λ (i : GenerationalBoxId). i.slot) same),
          )))

-- ==== the loops

module _ {T : Type 0} {S : State T} {fs : List (Family T)} (k : IsTreeKept S fs) where
  listed_length : {slot next : ℕ} {rows : List ChildRow} (l : AreListed S fs slot next rows)
      → length rows ≡ length (children_below fs l.done)
  listed_length l = ap length l.whole ∙ rows_length fs l.done

  -- fewer rows than slots were read
  pub next_short : {slot next : ℕ} {rows : List ChildRow} → AreListed S fs slot next rows → next < length rows
      → next < length fs
  next_short l lt = omega (arith, lt, listed_length l, below_short k l.roots l.done _ l.counts l.tops l.once)

  -- with the rows of one more node
  put_rows : {slot next : ℕ} {rows : List ChildRow} (l : AreListed S fs slot next rows) (n : Node T) → IsLiveIn S n
      → (roots : List (Node T)) (to then : ℕ) → then ≤ length rows
      → ((s : ℕ) → count_at s (l.done ++ n ∷ []) ≡ count_at s roots + count_at s (take then (children_below fs (l.done ++ n ∷ []))))
      → ((s : ℕ) → 0 < count_at s roots → above fs s ≡ None)
      → ((s : ℕ) → count_at s roots ≤ 1) → ((s : ℕ) → to ≤ s → count_at s roots ≡ 0)
      → ((m : Node T) → IsLiveIn S m → above fs (slot_in m) ≡ None → slot_in m < to → 0 < count_at (slot_in m) roots)
      → AreListed S fs to then (rows ++ rows_under fs n)
  put_rows {slot} {next} {rows} l n live roots to then le sums tops once later every = record {
    roots = roots;
    done = l.done ++ n ∷ [];
    whole = ap (λ xs. xs ++ rows_under fs n) l.whole ∙ sym (rows_below_more fs l.done n);
    within = omega (arith, le, length-append rows (rows_under fs n));
    live = both_each (IsLiveIn S) l.done (n ∷ []) l.live (λ i m is. one i m is);
    counts = sums;
    tops = tops;
    once = once;
    later = later;
    every = every;
    fits = subst (λ xs. AreChildRows S (xs ++ rows_under fs n)) (sym l.whole) (fits_under k l.done n live fresh
        (λ c over. child_absent k l.roots l.done _ l.counts l.tops c n over fresh) (subst (AreChildRows S) l.whole l.fits));
  }
    where
      one : (i : ℕ) (m : Node T) → slice_get (n ∷ []) i ≡ Some m → IsLiveIn S m
      one zero m is = subst (IsLiveIn S) (same_Some n m is) live
      one (suc i) m is = absurd (none-some m is)

      fresh : count_at (slot_in n) l.done ≡ 0
      fresh = omega (
        arith,
        done_once k roots (l.done ++ n ∷ []) then sums tops once (slot_in n),
        count_both (slot_in n) l.done (n ∷ []),
        count_here (slot_in n) n [] refl,
      )

  -- a root
  pub root_listed : {slot : ℕ} {rows : List ChildRow} → AreListed S fs slot (length rows) rows → (n : Node T)
      → IsLiveIn S n → slot_in n ≡ slot → above fs (slot_in n) ≡ None
      → AreListed S fs (slot + 1) (length rows) (rows ++ rows_under fs n)
  root_listed {slot} {rows} l n live at top =
      put_rows l n live (l.roots ++ n ∷ []) (slot + 1) (length rows) (omega arith) sums tops once later every
    where
      both : (s : ℕ) → count_at s (l.roots ++ n ∷ []) ≡ count_at s l.roots + count_at s (n ∷ [])
      both s = count_both s l.roots (n ∷ [])

      same : take (length rows) (children_below fs (l.done ++ n ∷ [])) ≡ take (length rows) (children_below fs l.done)
      same = ap (take (length rows)) (below_more fs l.done n)
          ∙ take-append-le (length rows) (children_below fs l.done) (children_at fs (slot_in n))
          (omega (arith, listed_length l))

      sums : (s : ℕ) → count_at s (l.done ++ n ∷ []) ≡ count_at s (l.roots ++ n ∷ [])
          + count_at s (take (length rows) (children_below fs (l.done ++ n ∷ [])))
      sums s = rw same (omega (arith, count_both s l.done (n ∷ []), both s, l.counts s))

      tops : (s : ℕ) → 0 < count_at s (l.roots ++ n ∷ []) → above fs s ≡ None
      tops s lt = ⊎_elim (λ old. l.tops s old)
          (λ le. ⊎_elim (λ is. subst (λ j. above fs j ≡ None) is top)
          (λ ne. absurd (omega (arith, lt, le, both s, count_apart s n [] ne)))
          (cases_eq (slot_in n) s)) (cases_lt 0 (count_at s l.roots))

      once : (s : ℕ) → count_at s (l.roots ++ n ∷ []) ≤ 1
      once s = ⊎_elim
          (λ is. omega (arith, both s, count_here s n [] is, l.later s (omega (arith, is, at))))
          (λ ne. omega (arith, both s, count_apart s n [] ne, l.once s)) (cases_eq (slot_in n) s)

      later : (s : ℕ) → slot + 1 ≤ s → count_at s (l.roots ++ n ∷ []) ≡ 0
      later s le = omega (
        arith,
        both s,
        l.later s (omega (arith, le)),
        count_apart s n [] (λ is. omega (arith, is, at, le)),
      )

      every : (m : Node T) → IsLiveIn S m → above fs (slot_in m) ≡ None → slot_in m < slot + 1
          → 0 < count_at (slot_in m) (l.roots ++ n ∷ [])
      every m there none lt = ⊎_elim
          (λ is. omega (arith, both (slot_in m), count_here (slot_in m) n [] (at ∙ sym is)))
          (λ ne. omega (arith, both (slot_in m), l.every m there none (omega (arith, lt, ne)))) (cases_eq (slot_in m) slot)

  -- a slot without a live root
  pub slot_passed : {slot : ℕ} {rows : List ChildRow} → AreListed S fs slot (length rows) rows
      → ((m : Node T) → IsLiveIn S m → above fs (slot_in m) ≡ None → slot_in m ≢ slot)
      → AreListed S fs (slot + 1) (length rows) rows
  slot_passed {slot} {rows} l none = record {
    roots = l.roots;
    done = l.done;
    whole = l.whole;
    within = l.within;
    live = l.live;
    counts = l.counts;
    tops = l.tops;
    once = l.once;
    later = λ s le. l.later s (omega (arith, le));
    every = λ m there root lt. l.every m there root (omega (arith, lt, none m there root));
    fits = l.fits;
  }

  -- the child of the next row
  pub next_child : {slot next : ℕ} {rows : List ChildRow} (l : AreListed S fs slot next rows) (r : ChildRow)
      → slice_get rows next ≡ Some r → (c : Node T) × (id_in c ≡ r.child) × IsLiveIn S c
      × (slice_get (children_below fs l.done) next ≡ Some c)
  next_child {slot} {next} {rows} l r is =
      let ids = sym (slice_get-map id_in (children_below fs l.done) next)
      ∙ (ap (λ xs. slice_get xs next) (sym (children_ids fs l.done) ∙ ap (map (λ (r : ChildRow). r.child)) (sym l.whole))
      ∙ (slice_get-map (λ (r : ChildRow). r.child) rows next ∙ ap (option_map (λ (r : ChildRow). r.child)) is)) in
      let c = mapped id_in (children_below fs l.done) next r.child (slice_get-map id_in (children_below fs l.done) next ∙ ids) in (
        c.0,
        c.1,
        flat_each (IsLiveIn S) (λ n. children_at fs (slot_in n)) (λ n. k.children (slot_in n)) l.done next c.0 c.2,
        c.2,
      )

  pub child_listed : {slot next : ℕ} {rows : List ChildRow} (l : AreListed S fs slot next rows) → next < length rows
      → (c : Node T) → IsLiveIn S c → slice_get (children_below fs l.done) next ≡ Some c
      → AreListed S fs slot (next + 1) (rows ++ rows_under fs c)
  child_listed {slot} {next} {rows} l lt c live at =
      put_rows l c live l.roots slot (next + 1) (omega (arith, lt)) sums l.tops l.once l.later l.every
    where
      within : next < length (children_below fs l.done)
      within = omega (arith, lt, listed_length l)

      here : get_or (children_below fs l.done) next c ≡ c
      here = same_Some _ _ (sym (slice_get-get_or (children_below fs l.done) next c within) ∙ at)

      more : take (next + 1) (children_below fs (l.done ++ c ∷ [])) ≡ take next (children_below fs l.done) ++ c ∷ []
      more = ap (take (next + 1)) (below_more fs l.done c)
          ∙ (take-append-le (next + 1) (children_below fs l.done) (children_at fs (slot_in c)) (omega (arith, within))
          ∙ (take_more (children_below fs l.done) next c within
          ∙ ap (λ d. take next (children_below fs l.done) ++ d ∷ []) here))

      sums : (s : ℕ) → count_at s (l.done ++ c ∷ [])
          ≡ count_at s l.roots + count_at s (take (next + 1) (children_below fs (l.done ++ c ∷ [])))
      sums s = rw more (omega (
        arith,
        count_both s l.done (c ∷ []),
        count_both s (take next (children_below fs l.done)) (c ∷ []),
        l.counts s,
      ))

  pub listed_none : AreListed S fs 0 0 []
  listed_none = record {
    roots = [];
    done = [];
    whole = refl;
    within = omega arith;
    live = λ i n is. absurd (none-some n is);
    counts = λ s. refl;
    tops = λ s lt. absurd (omega (arith, lt));
    once = λ s. omega arith;
    later = λ s le. refl;
    every = λ m there root lt. absurd (omega (arith, lt));
    fits = fit_none S;
  }

-- ==== all rows

module _ {T : Type 0} {S : State T} (links : List (Link T)) (sound : IsSound S) (k : IsTreeKept S (families links))
    (rows : List ChildRow) (slot : ℕ) (whole : length links ≤ slot)
    (l : AreListed S (families links) slot (length rows) rows) where
  abbrev fs : List (Family T)
  fs = families links

  all_counts : (s : ℕ) → count_at s l.done ≡ count_at s l.roots + count_at s (children_below fs l.done)
  all_counts s = l.counts s ∙ ap (λ xs. count_at s l.roots + count_at s xs)
      (take_all (length rows) (children_below fs l.done) (omega (arith, listed_length k l)))

  done_all : (d : ℕ) (n : Node T) → IsLiveIn S n → IsRooted fs d (slot_in n) → 0 < count_at (slot_in n) l.done
  done_all zero n live r = omega (
    arith,
    all_counts (slot_in n),
    l.every n live r (omega (arith, live_slot links sound k n live, whole)),
  )
  done_all (suc d) n live r =
      let p = above_parent fs (slot_in n) r.0 r.1 in
      let there = done_all d p.0 (k.parents (slot_in n) p.0 p.1) (subst (IsRooted fs d) (sym p.2) r.2) in
      omega (arith, all_counts (slot_in n), children_some fs k.forest (slot_in n) (slot_in p.0) (r.1 ∙ ap Some (sym p.2)) l.done, there)

  one_time : (n : Node T) → IsLiveIn S n → times n l.done ≡ 1
  one_time n live = let r = k.forest.rooted (slot_in n) in
      omega (
        arith,
        times_live sound k n live l.done l.live,
        done_all r.0 n live r.1,
        done_once k l.roots l.done _ l.counts l.tops l.once (slot_in n),
      )

  -- ---- children

  all_children_told : (n : Node T) → children_told rows (id_in n) ≡ map id_in (children_of (tree_of S fs) n)
  all_children_told n = ap (λ xs. children_told xs (id_in n)) l.whole ∙ ⊎_elim
      (λ live. told_once fs n l.done (one_time n live) ∙ sym (ap (map id_in) (live_children sound k [] n live)))
      (λ gone. told_absent fs n l.done (times_gone sound k n gone l.done l.live)
      ∙ sym (ap (λ f. map id_in f.children) (gone_family (tree_of S fs) n gone)))
      (cases_Bool (is_live (tree_of S fs) n))

  -- ---- parents

  child_live : (m : Node T) (j : ℕ) (c : Node T) → slice_get (children_at fs (slot_in m)) j ≡ Some c → IsLiveIn S c
  child_live m j c at = k.children (slot_in m) j c at

  gone_parent : (n : Node T) → is_live (tree_of S fs) n ≡ false → parent_told (rows_below fs l.done) (id_in n) ≡ None
  gone_parent n gone = no_parent (rows_below fs l.done) (id_in n) (each_below fs (λ r. r.child ≢ id_in n) l.done
      (λ i m is j c at same. true≢false (sym (live_as S c n same (child_live m j c at)) ∙ gone)))

  root_parent : (n : Node T) → parent_at fs (slot_in n) ≡ None → parent_told (rows_below fs l.done) (id_in n) ≡ None
  root_parent n root = no_parent (rows_below fs l.done) (id_in n) (each_below fs (λ r. r.child ≢ id_in n) l.done
      (λ i m is j c at same. none-some (slot_in m) (sym (ap slot_of root)
      ∙ (ap (λ (i : GenerationalBoxId). above fs i.slot) (sym same) ∙ parent_is fs k.forest (slot_in m) j c at))))

  upper_parent : (n up : Node T) → IsLiveIn S n → parent_at fs (slot_in n) ≡ Some up
      → parent_told (rows_below fs l.done) (id_in n) ≡ Some (id_in up)
  upper_parent n up live is =
      let lives = k.parents (slot_in n) up is in
      let r = k.forest.rooted (slot_in up) in
      let some : 0 < count_at (slot_in n) (children_below fs l.done) =
      omega (arith, children_some fs k.forest (slot_in n) (slot_in up) (ap slot_of is) l.done, done_all r.0 up lives r.1) in
      let c = counted (slot_in n) (children_below fs l.done) some in
      let there = flat_each (IsLiveIn S) (λ m. children_at fs (slot_in m)) (λ m. k.children (slot_in m)) l.done c.0 c.1 c.2 in
      let same = one_live S c.1 n sound k.simple there live c.3 in
      let row = mapped (λ (q : ChildRow). q.child) (rows_below fs l.done) c.0 (id_in c.1)
      (ap (λ xs. slice_get xs c.0) (children_ids fs l.done)
      ∙ (slice_get-map id_in (children_below fs l.done) c.0 ∙ ap (option_map id_in) c.2)) in
      parent_found (rows_below fs l.done) (id_in n) (id_in up) c.0 row.0 row.2 (row.1 ∙ same)
      (each_below fs (λ q. q.child ≡ id_in n → q.parent ≡ id_in up) l.done
      (λ i m at j d has own. one_live S m up sound k.simple (l.live i m at) lives
      (same_Some _ _ (sym (parent_is fs k.forest (slot_in m) j d has)
      ∙ (ap (λ (i : GenerationalBoxId). above fs i.slot) own ∙ ap slot_of is)))))

  all_parents_told : (n : Node T) → parent_told rows (id_in n) ≡ option_map id_in (parent_of (tree_of S fs) n)
  all_parents_told n = ap (λ xs. parent_told xs (id_in n)) l.whole ∙ ⊎_elim
      (λ live. by live (parent_at fs (slot_in n)) refl)
      (λ gone. gone_parent n gone ∙ sym (ap (λ f. option_map id_in f.parent) (gone_family (tree_of S fs) n gone)))
      (cases_Bool (is_live (tree_of S fs) n))
    where
      by : IsLiveIn S n → (o : Option (Node T)) → parent_at fs (slot_in n) ≡ o
          → parent_told (rows_below fs l.done) (id_in n) ≡ option_map id_in (parent_of (tree_of S fs) n)
      by live None is = root_parent n is ∙ sym (ap (option_map id_in) (live_parent sound k [] n live ∙ is))
      by live (Some up) is = upper_parent n up live is ∙ sym (ap (option_map id_in) (live_parent sound k [] n live ∙ is))

  pub all_rows : AreRowsOf S fs rows
  all_rows = record { parents = all_parents_told; children = all_children_told; fits = l.fits }

-- ==== which links are of live roots

no_upper : {T : Type 0} (o : Option (Node T)) → not (true && is_some o) ≡ true → o ≡ None
no_upper None is = refl
no_upper (Some n) is = absurd (true≢false (sym is))

no_slot : {T : Type 0} (o : Option (Node T)) → slot_of o ≡ None → o ≡ None
no_slot None is = refl
no_slot (Some n) is = absurd (none-some (slot_in n) (sym is))

both_true : (a b : Bool) → a ≡ true → b ≡ true → (a && b) ≡ true
both_true true b is other = other
both_true false b is other = absurd (true≢false (sym is))

module _ {T : Type 0} {S : State T} (links : List (Link T)) (known : AreNodesNoted S links) where
  pub met_root : (slot : ℕ) (l : Link T) → slice_get links slot ≡ Some l → is_met S true l ≡ true
      → IsLiveIn S l.node × (slot_in l.node ≡ slot) × (above (families links) (slot_in l.node) ≡ None)
  met_root slot l there met =
      let parts = and_parts _ _ met in
      let at = known.placed slot l.node (ap node_in there) in (
        parts.0,
        at,
        ap slot_of (ap (parent_at (families links)) at ∙ (parent_from links slot ∙ (ap upper there ∙ no_upper l.parent parts.1))),
      )

  pub unmet_root : (slot : ℕ) (l : Link T) → slice_get links slot ≡ Some l → is_met S true l ≡ false
      → (m : Node T) → IsLiveIn S m → above (families links) (slot_in m) ≡ None → slot_in m ≢ slot
  unmet_root slot l there unmet m live root at =
      let h = known.live m live in
      let same : l.node ≡ h.0 = same_Some _ _ (sym (ap node_in there) ∙ (ap (noted links) (sym at) ∙ h.1)) in
      let alive : is_some (value_in S (pointer_in l.node)) ≡ true =
      ap (λ n. is_some (value_in S (pointer_in n))) same ∙ (ap is_some (same_shown S h.0 m h.2) ∙ live) in
      let parent : l.parent ≡ None = sym (ap upper there) ∙ (sym (parent_from links slot)
      ∙ (ap (parent_at (families links)) (sym at) ∙ no_slot _ root)) in
      true≢false (sym (both_true (is_some (value_in S (pointer_in l.node))) (not (true && is_some l.parent)) alive
      (ap (λ o. not (true && is_some o)) parent)) ∙ unmet)

-- the rows of a node with an id
abbrev pub rows_for : {T : Type 0} → List (Family T) → GenerationalBoxId → List ChildRow
rows_for fs id = map (λ c. record { child = id_in c; parent = id }) (children_at fs id.slot)
