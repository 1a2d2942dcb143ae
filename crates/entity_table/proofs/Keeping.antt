-- What a table of entities keeps.
pub mod Common
unfoldable pub use Common.*

-- ==== a walk over rows of which each box has a value

-- what a list has at a place is its first element, or one of the others
pub get_cases : {X : Type 0} (x : X) (xs : List X) (i : ℕ) (y : X) → slice_get (x ∷ xs) i ≡ Some y
    → (x ≡ y) ⊎ ((j : ℕ) × (slice_get xs j ≡ Some y))
get_cases x xs zero y is = inl (same_Some x y is)
get_cases x xs (suc j) y is = inr (j, is)

module _ {E V R : Type 0} (key : R → E) (box : R → GenerationalPointer) (S : State V) where
  pub all_seen : (rows : List R)
      → ((i : ℕ) (r : R) → slice_get rows i ≡ Some r → is_some (value_in S (box r)) ≡ true)
      → AreSeen box S rows
  all_seen [] seen = tt
  all_seen (r ∷ rows) seen = (seen 0 r refl, all_seen rows (λ i q is. seen (suc i) q is))

  -- all of them are yielded
  pub shown_all : (rows : List R) → AreSeen box S rows
      → map (λ p. p.0) (shown_rows key box S rows) ≡ map key rows
  shown_all [] seen = refl
  shown_all (r ∷ rows) seen = grind (arith, shown_all rows seen.1)

  pub shown_length : (rows : List R) → AreSeen box S rows
      → length (shown_rows key box S rows) ≡ length rows
  shown_length rows seen = sym (length-map (shown_rows key box S rows) (λ p. p.0))
      ∙ (ap length (shown_all rows seen) ∙ length-map rows key)

  -- each is a row's, with the value of its box
  pub shown_sees : (rows : List R) (i : ℕ) (e : E) (v : V)
      → slice_get (shown_rows key box S rows) i ≡ Some (e, v)
      → (j : ℕ) × (r : R) × (slice_get rows j ≡ Some r) × (key r ≡ e) × (value_in S (box r) ≡ Some v)
  shown_sees [] i e v is = cc
  shown_sees (r ∷ rows) i e v is = by_option (value_in S (box r))
      (λ none. let it = shown_sees rows i e v (rw none at is) in (suc it.0, it.1, it.2, it.3, it.4))
      (λ u some. ⊎_elim (λ same. (0, r, refl, ap (λ p. p.0) same, some ∙ ap (λ p. Some p.1) same))
      (λ left. let it = shown_sees rows left.0 e v left.1 in (suc it.0, it.1, it.2, it.3, it.4))
      (get_cases (key r, u) _ i (e, v) (rw some at is)))

  -- and each row is there
  pub shown_each : (rows : List R) → AreSeen box S rows → (i : ℕ) (r : R) (v : V)
      → slice_get rows i ≡ Some r → value_in S (box r) ≡ Some v
      → slice_get (shown_rows key box S rows) i ≡ Some (key r, v)
  shown_each (q ∷ rows) seen (suc i) r v is sees = grind (arith, shown_each rows seen.1 i r v is sees)
  shown_each rows seen i r v is sees = grind arith

-- ==== a walk over components with the elements of their entities

module _ {E V W : Type 0} (see : E → Option V) where
  -- each is a key with its value, and what is seen of the key
  pub joined_sees : (ps : List (E × W)) (i : ℕ) (e : E) (v : V) (w : W)
      → slice_get (joined_rows see ps) i ≡ Some (e, v, w)
      → (j : ℕ) × (slice_get ps j ≡ Some (e, w)) × (see e ≡ Some v)
  joined_sees [] i e v w is = cc
  joined_sees (p ∷ ps) i e v w is = by_option (see p.0)
      (λ none. let it = joined_sees ps i e v w (rw none at is) in (suc it.0, it.1, it.2))
      (λ u some. ⊎_elim (λ same. (
        0,
        ap (λ (q : E × V × W). Some (q.0, q.2)) same,
        sym (ap (λ (q : E × V × W). see q.0) same) ∙ (some ∙ ap (λ (q : E × V × W). Some q.1) same),
      ))
      (λ left. let it = joined_sees ps left.0 e v w left.1 in (suc it.0, it.1, it.2))
      (get_cases (p.0, u, p.1) _ i (e, v, w) (rw some at is)))

  -- and each key with a value of which something is seen is there
  pub joined_each : (ps : List (E × W)) (i : ℕ) (e : E) (v : V) (w : W)
      → slice_get ps i ≡ Some (e, w) → see e ≡ Some v
      → (j : ℕ) × (slice_get (joined_rows see ps) j ≡ Some (e, v, w))
  joined_each [] i e v w is sees = cc
  joined_each (p ∷ ps) zero e v w is sees = (0, grind arith)
  joined_each (p ∷ ps) (suc i) e v w is sees =
      let it = joined_each ps i e v w is sees in by_option (see p.0)
      (λ none. (it.0, rw none it.1)) (λ u some. (suc it.0, rw some it.1))

  -- and no more are there
  pub joined_most : (ps : List (E × W)) → length (joined_rows see ps) ≤ length ps
  joined_most [] = omega arith
  joined_most (p ∷ ps) = let rest = joined_most ps in by_option (see p.0)
      (λ none. rw none (omega (arith, rest))) (λ v some. rw some (omega (arith, rest)))

  -- what rises in keys still does
  module _ (n : E → ℕ) where
    above : (x : ℕ) (ps : List (E × W)) → All (λ y. x < y) (map (λ p. n p.0) ps)
        → All (λ y. x < y) (map (λ q. n q.0) (joined_rows see ps))
    above x [] h = h
    above x (p ∷ ps) h =
        let rest = above x ps (All-tail (◌<◌ x) (n p.0) _ h) in by_option (see p.0) (λ none. rw none rest)
        (λ v some. rw some (All-cons (◌<◌ x) (n p.0) _ (All-head (◌<◌ x) (n p.0) _ h) rest))

    pairs : (ps : List (E × W)) → AllPairs (λ x y. x < y) (map (λ p. n p.0) ps)
        → AllPairs (λ x y. x < y) (map (λ q. n q.0) (joined_rows see ps))
    pairs [] h = h
    pairs (p ∷ ps) h =
        let rest = pairs ps (λ i j d lt within. h (suc i) (suc j) d (omega (arith, lt)) (omega (arith, within))) in
        by_option (see p.0) (λ none. rw none rest) (λ v some. rw some (AllPairs-cons ◌<◌ (n p.0) _
        (above (n p.0) ps (λ j d within. h zero (suc j) d (omega arith) (omega (arith, within)))) rest))

    pub joined_rise : (ps : List (E × W)) → IsStrictlyIncreasing (map (λ p. n p.0) ps)
        → IsStrictlyIncreasing (map (λ q. n q.0) (joined_rows see ps))
    joined_rise ps h k within =
        pairs ps (AllPairs-from_increasing (map (λ p. n p.0) ps) h) k (k + 1) 0 (omega arith) within

-- ==== a table's store and rows after each of its calls

-- two handles are of one entity or of two
pub one_or_two : {T : Type 0} (a b : Entity T) → IsSame a b ⊎ IsOther a b
one_or_two a b = grind arith

-- a value that is set leaves each other box
pub set_others : {T : Type 0} {S R : State T} → IsSound S → HasNoReferences S → (a b : GenerationalPointer) (v old : T)
    → Meets S (SetValue a v) (Old old) R → a.id ≢ b.id → value_in R b ≡ value_in S b
set_others sound plain a b v old m other =
    let saw = (sets _ _ _ m).0 in
    let to = seen_reached _ _ _ saw in
    others_left _ _ m a b (seen_store _ _ sound (ap is_some saw)) (λ ne. same_value _ _ _ _ sound m _
    (λ same. ne (reach_apart _ plain _ _ to.0 to.1 (sym same))) tt) other

-- in an empty list nothing is found
absent : {X : Type 0} (o : Option X) → ((v : X) → o ≡ Some v → ⊥) → is_some o ≡ false
absent None h = refl
absent (Some v) h = absurd (h v refl)

pub no_value : {X : Type 0} (o : Option X) → ((v : X) → o ≡ Some v → ⊥) → o ≡ None
no_value None h = refl
no_value (Some v) h = absurd (h v refl)

none_of : {X : Type 0} (o : Option X) → is_some o ≡ false → o ≡ None
none_of None is = refl
none_of (Some v) is = absurd (true≢false is)

-- how many rows there are
pub rows_count : (T : Type 0) (m : MapState (Unit {0}))
    → length (map (λ (p : Entity T × Unit {0}). p.0) (listed m)) ≡ count m.rows
rows_count T m = length-map (listed m) (λ (p : Entity T × Unit {0}). p.0)
    ∙ listed_count T EntityKind m.number 0 m.rows

-- what holds of an option that has a value
pub from_some : {X : Type 0} (o : Option X) (Q : Type 0) → is_some o ≡ true → IfSome o (λ _. Q) → Q
from_some None Q is h = absurd (true≢false (sym is))
from_some (Some v) Q is h = h

pub on_err : {X E Q : Type 0} (r : Result X E) → Q → OnErr r Q
on_err r q = grind arith

-- rows that hold the same, with vacant ones more
pub reserved_rows : (T : Type 0) (m more : MapState (Unit {0})) → more.number ≡ m.number
    → ((at : ℕ) → row_at more.rows at ≡ row_at m.rows at)
    → listed {T = T} {K = EntityKind} more ≡ listed m
reserved_rows T m more number same =
    rw number (same_listed m.number 0 m.rows more.rows same)

pub reserved_count : (T : Type 0) (m more : MapState (Unit {0}))
    → ((at : ℕ) → row_at more.rows at ≡ row_at m.rows at) → count more.rows ≡ count m.rows
reserved_count T m more same = sym (listed_count T EntityKind 0 0 more.rows)
    ∙ (ap length (same_listed 0 0 m.rows more.rows same) ∙ listed_count T EntityKind 0 0 m.rows)

none_some : {X : Type 0} (x : X) → None ≡ Some x → ⊥
none_some x is = cc

-- what is said of the number and the locations stays so when more are added
pub still_told : {T : Type 0} (n m : ℕ) (s t : SiteState) (old : List Location) (e : Entity T) (l : Location) → m ≡ n
    → s.told ≤ t.told → t.all ≡ s.all → told_in s ≡ old → told_at n old e ≡ Some l → told_at m (told_in t) e ≡ Some l
still_told n m s t old e l number le same was is =
    rw number (both (nat_eq e.store n) refl)
  where
    both : (b : Bool) → nat_eq e.store n ≡ b → (if b then slice_get (told_in t) e.site else None) ≡ Some l
    both true own = told_more s t e.site l le same (rw was (sym (ap (λ b. if b then slice_get old e.site else None) own) ∙ is))
    both false other = absurd (none_some l (sym (ap (λ b. if b then slice_get old e.site else None) other) ∙ is))

pub tells_here : {T : Type 0} (n : ℕ) (s : SiteState) (e : Entity T) (here : Location) → e.store ≡ n → e.site < s.told
    → IsAt s.all e.site here → TellsLocation (told_at n (told_in s) e) here
tells_here n s e here own lt at =
    (at.kept, rw (own, nat_eq_equiv.refl n) (told_here s e.site at.kept lt at.there), at.alike)

module _ {T : Type 0} where
  pub fresh_kept : (number start next : ℕ)
      → IsTableKept {T = T} (fresh number start next) (record { number = number; rows = [] })
  fresh_kept number start next = record {
    simple = fresh_simple number start next;
    number = refl;
    same = λ e. sym (ap is_some (fresh_sees {T = T} number start next (pointer_in e)) ∙ sym (no_rows e));
  }
    where
      no_rows : (e : Entity T)
          → is_some (value_of {V = Unit {0}} (record { number = number; rows = [] }) e) ≡ false
      no_rows e = grind arith

  -- a live entity is held, and one that is held is live
  pub held_live : {S : State T} {m : MapState (Unit {0})} → IsTableKept S m → (e : Entity T)
      → is_some (value_of m e) ≡ true → IsSeen S (pointer_in e)
  held_live k e is = sym (k.same e) ∙ is

  module _ {S R : State T} {m : MapState (Unit {0})} (s : IsSound S) (k : IsTableKept S m) where
    -- if the same entities are live, the rows stay
    pub kept_still : IsSimple R → R.number ≡ S.number
        → ((b : GenerationalPointer) → is_some (value_in R b) ≡ is_some (value_in S b)) → IsTableKept R m
    kept_still simple number same = record {
      simple = simple;
      number = k.number ∙ sym number;
      same = λ e. k.same e ∙ sym (same (pointer_in e));
    }

    pub kept_set : (a : GenerationalPointer) (v old : T) → Meets S (SetValue a v) (Old old) R → IsTableKept R m
    kept_set a v old met = kept_still (simple_still s k.simple _ _ met tt tt) (meets_number _ _ _ _ met)
        (set_seen s k.simple.unborrowed a v old met)

    -- ---- a new cell

    module _ (v : T) (l : Location) (b : GenerationalPointer) (met : Meets S (Make None v l) (Made b) R) where
      -- no live entity has its slot
      unheld : (e : Entity T) → slot_in e ≡ b.id.slot → is_some (value_of m e) ≡ true → ⊥
      unheld e slot is =
          slot_apart S (name_of b) s.given k.simple.bounded (making {S = S} {R = R} v l b met).fits
          (name_of (pointer_in e)) (seen_cell S (pointer_in e) (held_live k e is)) slot

      pub new_vacant : (r : Row (Unit {0})) → row_at m.rows b.id.slot ≡ r → r ≡ Vacant
      new_vacant Vacant at = refl
      new_vacant (Held site generation u) at =
          absurd (unheld (at_slot m.number b.id.slot site generation) refl (grind arith))

      pub new_within : b.id.slot ≤ slots S
      new_within = slot_within S (name_of b) k.simple.bounded (making {S = S} {R = R} v l b met).fits

      module _ (e : Entity T) (own : id_in e ≡ b.id) (more next : MapState (Unit {0}))
          (number : more.number ≡ m.number) (rows : (at : ℕ) → row_at more.rows at ≡ row_at m.rows at)
          (lt : slot_in e < length more.rows) (after : next.number ≡ more.number)
          (put : next.rows ≡ slice_set more.rows (slot_in e) (Held e.site e.generation tt)) where
        is_next : next ≡ record { number = m.number; rows = slice_set more.rows (slot_in e) (Held e.site e.generation tt) }
        is_next = λ j. record { number = (after ∙ number) j; rows = put j }

        bears : e.store ≡ m.number
        bears = ap (λ i. i.store) own ∙ ((made_new S R (Make None v l) b met).0 ∙ sym k.number)

        slot_is : slot_in e ≡ b.id.slot
        slot_is = ap (λ i. i.slot) own

        left : (f : Entity T) → IsOther e f → is_some (value_of next f) ≡ is_some (value_of m f)
        left f other = rw is_next (⊎_elim
            (λ same. ap is_some (put_lost m.number more.rows e f tt bears lt same other)
            ∙ sym (absent (value_of m f) (λ u is. unheld f (sym same ∙ slot_is) (ap is_some is))))
            (λ apart. ap is_some (set_apart m.number more.rows e f _ apart ∙ same_values m.number m.rows more.rows f rows))
            (key_cases by_number (slot_in e) (slot_in f)))

        pub kept_spawned : IsTableKept R next
        kept_spawned = record {
          simple = made_simple s k.simple v l b met;
          number = after ∙ (number ∙ (k.number ∙ sym (meets_number S R _ _ met)));
          same = λ f. ⊎_elim
              (λ same. rw is_next (ap is_some (subst (λ i. value_at i ≡ Some tt) same
              (put_here m.number more.rows e tt bears lt)))
              ∙ sym (ap is_some (same_id_sees R (pointer_in f) b (sym same ∙ own)
              ∙ (meets_tells S R (Make None v l) (Made b) met).1)))
              (λ other. left f other ∙ (k.same f ∙ sym (ap is_some (others_left _ _ met b (pointer_in f)
              (made_new S R (Make None v l) b met).0 (same_value S R _ _ s met (pointer_in f) tt) (λ one. other (own ∙ one))))))
              (one_or_two e f);
        }
          where
            value_at : GenerationalBoxId → Option (Unit {0})
            value_at i = if nat_eq i.store m.number
                then held (row_at (slice_set more.rows (slot_in e) (Held e.site e.generation tt)) i.slot) i.generation else None

        pub spawned_count : count next.rows ≡ count more.rows + 1
        spawned_count =
            let new : Row (Unit {0}) = Held e.site e.generation tt in
            let was = ap one (rows (slot_in e) ∙ (ap (row_at m.rows) slot_is ∙ new_vacant (row_at m.rows b.id.slot) refl)) in
            rw put (omega (
              arith,
              count_set more.rows (slot_in e) new lt,
              was,
              one_vacant (Unit {0}),
              one_held {V = Unit {0}} e.site e.generation tt,
            ))

    -- ---- a cell that was removed

    module _ (a : GenerationalPointer) (e : Entity T) (own : a.id ≡ id_in e) (live : is_some (value_of m e) ≡ true)
        (met : Meets S (End a) Done R) where
      pub ended_seen : IsSeen S a
      ended_seen = ap is_some (same_id_sees S a (pointer_in e) own) ∙ held_live k e live

      pub ended_gone : value_in R (pointer_in e) ≡ None
      ended_gone = sym (same_id_sees R a (pointer_in e) own) ∙ unseen R a (ends a {U = Unit {0}} (Ok tt) met)

      pub ended_others : (f : Entity T) → IsOther e f → value_in R (pointer_in f) ≡ value_in S (pointer_in f)
      ended_others f other = others_left _ _ met a (pointer_in f) (seen_store S a s ended_seen)
          (λ ne. same_value S R _ _ s met (pointer_in f) ne tt) (λ same. other (sym own ∙ same))

      pub kept_ended : IsTableKept R (record m { rows = slice_set m.rows (slot_in e) Vacant })
      kept_ended = record {
        simple = simple_still s k.simple (End a) Done met tt tt;
        number = k.number ∙ sym (meets_number S R _ _ met);
        same = λ f. ⊎_elim
            (λ same. ap is_some (emptied_here m.number m.rows e f (ap (λ i. i.slot) same))
            ∙ sym (ap is_some (same_id_sees R (pointer_in f) (pointer_in e) (sym same) ∙ ended_gone)))
            (λ other. left f other ∙ (k.same f ∙ sym (ap is_some (ended_others f other))))
            (one_or_two e f);
      }
        where
          left : (f : Entity T) → IsOther e f
              → is_some (value_of (record m { rows = slice_set m.rows (slot_in e) Vacant }) f) ≡ is_some (value_of m f)
          left f other = ⊎_elim
              (λ same. ap is_some (emptied_here m.number m.rows e f same)
              ∙ sym (absent (value_of m f) (λ u is. other (one_slot m e f live (ap is_some is) same))))
              (λ apart. ap is_some (set_apart m.number m.rows e f Vacant apart))
              (key_cases by_number (slot_in e) (slot_in f))

      pub ended_count : count (slice_set m.rows (slot_in e) Vacant) + 1 ≡ count m.rows
      ended_count = omega (
        arith,
        count_set m.rows (slot_in e) Vacant (value_within m e live),
        one_vacant (Unit {0}),
        one_live (row_at m.rows (slot_in e)) refl,
      )
        where
          one_live : (r : Row (Unit {0})) → row_at m.rows (slot_in e) ≡ r → one (row_at m.rows (slot_in e)) ≡ 1
          one_live Vacant at = grind arith
          one_live (Held site generation u) at = ap one at ∙ one_held site generation u

  -- ---- what is seen of the rows

  pub all_live : {S : State T} {m : MapState (Unit {0})} → IsTableKept S m
      → AreSeen (λ (p : Entity T × Unit {0}). pointer_in p.0) S (listed m)
  all_live {S} {m} k = all_seen (λ (p : Entity T × Unit {0}). p.0) (λ p. pointer_in p.0) S (listed m)
      (λ i p is. sym (k.same p.0) ∙ ap is_some (listed_shown m i p.0 p.1 is))

  pub kept_dense : {S : State T} {m : MapState (Unit {0})} → IsTableKept S m → (sites : List Location)
      → IsDense (record { state = S; rows = map (λ (p : Entity T × Unit {0}). p.0) (listed m); sites = sites })
  kept_dense {S} {m} k sites = record {
    live = λ row e is. let at = mapped (listed m) row e is in
        subst (λ f. IsSeen S (pointer_in f)) at.1 (sym (k.same at.0.0) ∙ ap is_some (listed_shown m row at.0.0 at.0.1 at.2));
    listed = λ e live. by_option (value_of m e) (λ none. absurd (true≢false (sym (k.same e ∙ live) ∙ ap is_some none)))
        (λ u is. let at = listed_every m e u is in
        (at.0, at.1, slice_get-map (λ (p : Entity T × Unit {0}). p.0) (listed m) at.0 ∙ ap (option_map (λ p. p.0)) at.2, at.3));
    ordered = subst IsStrictlyIncreasing (sym (map-map slot_in (λ (p : Entity T × Unit {0}). p.0) (listed m)))
        (listed_rise T EntityKind m);
  }
    where
      mapped : (ps : List (Entity T × Unit {0})) (row : ℕ) (e : Entity T) → slice_get (map (λ p. p.0) ps) row ≡ Some e
          → (p : Entity T × Unit {0}) × (p.0 ≡ e) × (slice_get ps row ≡ Some p)
      mapped [] row e is = cc
      mapped (p ∷ ps) zero e is = (p, same_Some _ _ is, refl)
      mapped (p ∷ ps) (suc row) e is = mapped ps row e is

  -- if no entity is live there are no rows
  pub dense_empty : (t : TableState T) → IsDense t → ((e : Entity T) → element_in t e ≡ None) → t.rows ≡ []
  dense_empty t dense none = no_rows t.rows refl
    where
      no_rows : (rows : List (Entity T)) → t.rows ≡ rows → rows ≡ []
      no_rows [] is = refl
      no_rows (e ∷ rows) is = absurd (true≢false (sym (dense.live 0 e (ap (λ r. slice_get r 0) is)) ∙ ap is_some (none e)))

-- ==== a table after another slot was tested: its entity has passed, or it was removed

module _ {T : Type 0} {answers : T → Bool → Type 0} {first old : TableState T} {slot : ℕ}
    (s : Sifts answers first old slot) where
  -- those of the slots before, and of this one
  below : (new : TableState T) → ((e : Entity T) (v : T) → element_in new e ≡ Some v → slot_in e < slot → answers v true)
      → ((e : Entity T) (v : T) → element_in new e ≡ Some v → slot_in e ≡ slot → answers v true)
      → (e : Entity T) (v : T) → element_in new e ≡ Some v → slot_in e < slot + 1 → answers v true
  below new before here e v is lt = ⊎_elim (λ same. here e v is same)
      (λ apart. before e v is (omega (arith, lt, apart))) (key_cases by_number (slot_in e) slot)

  -- no entity is there
  pub sifts_none : ((e : Entity T) → is_some (element_in old e) ≡ true → slot_in e ≡ slot → ⊥)
      → Sifts answers first old (slot + 1)
  sifts_none none = record {
    left = s.left;
    none = s.none;
    kept = s.kept;
    told = s.told;
    passed = below old s.passed (λ e v is same. absurd (none e (ap is_some is) same));
  }

  module _ (entity : Entity T) (v : T) (has : element_in old entity ≡ Some v) (at : slot_in entity ≡ slot)
      (alone : (e : Entity T) → is_some (element_in old e) ≡ true → slot_in e ≡ slot → IsSame entity e) where
    -- the entity has passed
    pub sifts_passed : answers v true → Sifts answers first old (slot + 1)
    sifts_passed passes = record {
      left = s.left;
      none = s.none;
      kept = s.kept;
      told = s.told;
      passed = below old s.passed (λ e w is same. subst (λ x. answers x true)
          (same_Some v w (sym has ∙ (same_id_sees old.state (pointer_in entity) (pointer_in e) (alone e (ap is_some is) same) ∙ is)))
          passes);
    }

    -- it was removed
    module _ (new : TableState T) (gone : element_in new entity ≡ None)
        (others : (e : Entity T) → IsOther entity e → element_in new e ≡ element_in old e) where
      alike : (e : Entity T) → IsSame entity e → element_in new e ≡ None
      alike e same = sym (same_id_sees new.state (pointer_in entity) (pointer_in e) same) ∙ gone

      stays : (e : Entity T) → element_in old e ≡ None → element_in new e ≡ None
      stays e none = ⊎_elim (alike e) (λ other. others e other ∙ none) (one_or_two entity e)

      apart : (e : Entity T) (w : T) → element_in new e ≡ Some w → (element_in old e ≡ Some w) × IsOther entity e
      apart e w is = ⊎_elim (λ same. absurd (none_some w (sym (alike e same) ∙ is)))
          (λ other. (sym (others e other) ∙ is, other)) (one_or_two entity e)

      pub sifts_failed : answers v false → ((e : Entity T) → WasSpawned old e → WasSpawned new e)
          → ((e : Entity T) → created_at new e ≡ created_at old e) → Sifts answers first new (slot + 1)
      sifts_failed fails kept told = record {
        left = λ e w is. ⊎_elim
            (λ has_w. ⊎_elim (λ same. inr (
              alike e same,
              subst (λ x. answers x false)
                  (same_Some v w (sym has ∙ (same_id_sees old.state (pointer_in entity) (pointer_in e) same ∙ has_w))) fails,
            ))
            (λ other. inl (others e other ∙ has_w)) (one_or_two entity e))
            (λ failed. inr (stays e failed.0, failed.1)) (s.left e w is);
        none = λ e is. stays e (s.none e is);
        kept = λ e is. kept e (s.kept e is);
        told = λ e. told e ∙ s.told e;
        passed = below new (λ e w is. s.passed e w (apart e w is).0)
            (λ e w is same. let was = apart e w is in absurd (was.1 (alone e (ap is_some was.0) same)));
      }

module _ {T : Type 0} {answers : T → Bool → Type 0} where
  -- if no slot was tested nothing has changed
  pub sifts_begun : (t : TableState T) → Sifts answers t t 0
  sifts_begun t = record {
    left = λ e v is. inl is;
    none = λ e is. is;
    kept = λ e is. is;
    told = λ e. refl;
    passed = λ e v is lt. absurd (omega (arith, lt));
  }

  -- if all slots were tested each entity that is left has passed
  pub sifted : {old new : TableState T} {slot : ℕ} → Sifts answers old new slot
      → ((e : Entity T) → is_some (element_in old e) ≡ true → slot_in e < slot)
      → (e : Entity T) (v : T) → element_in old e ≡ Some v → IsSifted answers v (element_in new e)
  sifted s all e v is = ⊎_elim (λ stays. inl (stays, s.passed e v stays (all e (ap is_some is)))) (λ gone. inr gone) (s.left e v is)

-- ==== components after each slot of a sweep

-- handles of one entity have one element
same_shown : {T : Type 0} (table : TableState T) (a e : Entity T) → IsSame a e
    → element_in table a ≡ element_in table e
same_shown table a e = same_id_sees table.state (pointer_in a) (pointer_in e)

-- handles of one entity have one component
pub same_component : {T C : Type 0} (t : MapState C) (a e : Entity T) → IsSame a e → component_in t a ≡ component_in t e
same_component t a e same = grind arith

module _ {T C : Type 0} {table : TableState T} where
  pub sweeps_begun : (t : MapState C) → Sweeps table t t 0
  sweeps_begun t = record { kept = λ e is. refl; gone = λ e dead lt. absurd (omega (arith, lt)); none = λ e is. is }

  module _ {first now : MapState C} {slot : ℕ} (s : Sweeps table first now slot) where
    -- at a slot without a component
    pub sweeps_empty : row_at now.rows slot ≡ Vacant → Sweeps table first now (slot + 1)
    sweeps_empty none = record {
      kept = s.kept;
      none = s.none;
      gone = λ e dead lt. ⊎_elim (λ same. grind (arith, none)) (λ apart. s.gone e dead (omega (arith, lt, apart)))
          (key_cases by_number (slot_in e) slot);
    }

    module _ (p : Entity T) (site generation : ℕ) (v : C) (there : row_at now.rows slot ≡ Held site generation v)
        (is : p ≡ at_slot now.number slot site generation) where
      -- the component of another of the slot
      other : (e : Entity T) → slot_in e ≡ slot → IsOther p e → component_in now e ≡ None
      other e same ne = grind arith

      -- at one whose entity is live
      pub sweeps_live : is_some (element_in table p) ≡ true → Sweeps table first now (slot + 1)
      sweeps_live live = record {
        kept = s.kept;
        none = s.none;
        gone = λ e dead lt. ⊎_elim
            (λ same. ⊎_elim (λ one. absurd (true≢false (sym live ∙ (ap is_some (same_shown table p e one) ∙ ap is_some dead))))
            (λ ne. other e same ne) (one_or_two p e))
            (λ apart. s.gone e dead (omega (arith, lt, apart))) (key_cases by_number (slot_in e) slot);
      }

      -- and at one whose entity isn't, and whose component was removed
      pub sweeps_gone : {next : MapState C} → is_some (element_in table p) ≡ false → component_in next p ≡ None
          → ((e : Entity T) → IsOther p e → component_in next e ≡ component_in now e) → Sweeps table first next (slot + 1)
      sweeps_gone {next} dead gone others = record {
        kept = λ e live. ⊎_elim
            (λ one. absurd (true≢false (sym live ∙ (ap is_some (sym (same_shown table p e one)) ∙ dead))))
            (λ ne. others e ne ∙ s.kept e live) (one_or_two p e);
        none = λ e is. ⊎_elim (λ one. sym (same_component next p e one) ∙ gone)
            (λ ne. others e ne ∙ s.none e is) (one_or_two p e);
        gone = λ e none lt. ⊎_elim (λ one. sym (same_component next p e one) ∙ gone)
            (λ ne. others e ne ∙ ⊎_elim (λ same. other e same ne) (λ apart. s.gone e none (omega (arith, lt, apart)))
            (key_cases by_number (slot_in e) slot)) (one_or_two p e);
      }

  -- past the slots there were no components
  pub swept : {first now : MapState C} {slot : ℕ} → Sweeps table first now slot → length first.rows ≤ slot
      → (e : Entity T) → element_in table e ≡ None → component_in now e ≡ None
  swept {first} s all e dead = by_option (component_in first e) (s.none e)
      (λ v is. s.gone e dead (omega (arith, all, value_within first e (ap is_some is))))

-- ==== components after each slot of a test

-- a row that is of no entity, and one that is
no_entity : {T C : Type 0} (number slot : ℕ) (row : Row C) → None ≡ handle_of {T = T} {K = EntityKind} number slot row
    → row ≡ Vacant
no_entity number slot Vacant is = refl
no_entity number slot (Held site generation v) is = cc

pub its_slot : {T C : Type 0} (number slot : ℕ) (row : Row C) (p : Entity T)
    → Some p ≡ handle_of {T = T} {K = EntityKind} number slot row → slot_in p ≡ slot
its_slot number slot Vacant p is = cc
its_slot number slot (Held site generation v) p is = grind (arith, same_Some p (at_slot number slot site generation) is)

module _ {T C : Type 0} {answers : C → Bool → Type 0} where
  pub components_begun : (t : MapState C) → SiftsComponents T answers t t 0
  components_begun t = record {
    left = λ e c is. inl is;
    none = λ e is. is;
    passed = λ e c is lt. absurd (omega (arith, lt));
  }

  module _ {first now : MapState C} {slot : ℕ} (s : SiftsComponents T answers first now slot) where
    -- at a slot without a component
    pub components_empty : None ≡ handle_of {T = T} {K = EntityKind} now.number slot (row_at now.rows slot)
        → SiftsComponents T answers first now (slot + 1)
    components_empty empty = let vacant = no_entity now.number slot (row_at now.rows slot) empty in record {
      left = s.left;
      none = s.none;
      passed = λ e c is lt. ⊎_elim (λ same. grind (arith, vacant)) (λ apart. s.passed e c is (omega (arith, lt, apart)))
          (key_cases by_number (slot_in e) slot);
    }

    module _ (p : Entity T) (v : C) (there : component_in now p ≡ Some v) (at : slot_in p ≡ slot) where
      -- no other entity of the slot has one
      alone : (e : Entity T) → slot_in e ≡ slot → IsOther p e → component_in now e ≡ None
      alone e same ne = grind arith

      -- at one that passed
      pub components_passed : answers v true → SiftsComponents T answers first now (slot + 1)
      components_passed passes = record {
        left = s.left;
        none = s.none;
        passed = λ e c is lt. ⊎_elim
            (λ same. ⊎_elim (λ same_one. subst (λ x. answers x true)
            (same_Some v c (sym there ∙ (same_component now p e same_one ∙ is))) passes)
            (λ ne. absurd (none-some c (sym (alone e same ne) ∙ is))) (one_or_two p e))
            (λ apart. s.passed e c is (omega (arith, lt, apart))) (key_cases by_number (slot_in e) slot);
      }

      -- at one that failed, and was removed
      pub components_failed : {next : MapState C} → answers v false → component_in next p ≡ None
          → ((e : Entity T) → IsOther p e → component_in next e ≡ component_in now e)
          → SiftsComponents T answers first next (slot + 1)
      components_failed {next} fails gone others = record {
        left = λ e c is. ⊎_elim
            (λ same_one. inr (sym (same_component next p e same_one) ∙ gone, failed e c is same_one))
            (λ ne. ⊎_elim (λ stays. inl (others e ne ∙ stays)) (λ went. inr (others e ne ∙ went.0, went.1)) (s.left e c is))
            (one_or_two p e);
        none = λ e is. ⊎_elim (λ same_one. sym (same_component next p e same_one) ∙ gone)
            (λ ne. others e ne ∙ s.none e is) (one_or_two p e);
        passed = λ e c is lt. ⊎_elim
            (λ same_one. absurd (none-some c (sym gone ∙ (same_component next p e same_one ∙ is))))
            (λ ne. ⊎_elim (λ same. absurd (none-some c (sym (alone e same ne) ∙ (sym (others e ne) ∙ is))))
            (λ apart. s.passed e c (sym (others e ne) ∙ is) (omega (arith, lt, apart)))
            (key_cases by_number (slot_in e) slot)) (one_or_two p e);
      }
        where
          failed : (e : Entity T) (c : C) → component_in first e ≡ Some c → IsSame p e → answers c false
          failed e c is same_one = ⊎_elim
              (λ stays. subst (λ x. answers x false) (same_Some v c (sym there ∙ (same_component now p e same_one ∙ stays))) fails)
              (λ went. went.1) (s.left e c is)

  -- past the slots there were no components
  pub components_sifted : {first now : MapState C} {slot : ℕ} → SiftsComponents T answers first now slot
      → length first.rows ≤ slot → (e : Entity T) (c : C) → component_in first e ≡ Some c
      → IsSifted answers c (component_in now e)
  components_sifted {first} s all e c is = ⊎_elim
      (λ stays. inl (stays, s.passed e c stays (omega (arith, all, value_within first e (ap is_some is)))))
      (λ gone. inr gone) (s.left e c is)

-- a list is empty if its length is 0
pub none_long : {X : Type 0} (xs : List X) (n : ℕ) → n ≡ length xs → (nat_eq n 0 ≡ true) ↔ (xs ≡ [])
none_long [] n is = grind arith
none_long (x ∷ xs) n is = grind arith
