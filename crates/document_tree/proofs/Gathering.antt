-- A walk that lists each part once.
use Rattle.document_tree.proofs.Keeping.Common.{ap, arith, Bool, children_in, children_shown, DocumentState, inl, inr, IsBelowPlace, IsBelowBy, IsDocumentKept, is_some, length}
use Rattle.document_tree.proofs.Keeping.Common.{List, None, Option, part_at, part_in, Place, refl, reverse, same_Some, shown_in, shown_of, slice_get, Some}
use Rattle.document_tree.proofs.Keeping.Common.{subst, suc, sym, true, true≢false, unwrap_or, zero, ℕ, [], ⊎_elim, ◌++◌, ◌+◌, ◌<◌, ◌∙◌, ◌∷◌, ◌≡◌, ◌≢◌, ◌⊎◌}
use Rattle.document_tree.proofs.Keeping.Common.{cases_lt, id_in, none-some, slice_get_within, slice_index_or, ◌≤◌}
use Rattle.document_tree.proofs.Keeping.{led_part, live_shows}
use Rattle.document_tree.specs.Marks.{IsMarked, IsPassed, MarksFirst}
use Rattle.std.proofs.lemmas.List.Elements.{All-contains_itself, All-weaker, Contains-append_cases, Contains-append_left}
use Rattle.std.proofs.lemmas.List.Elements.{Contains-append_right, Contains-get_or, Contains-push}
use Rattle.std.proofs.lemmas.List.Quantifiers.{all_pairs_push}
use Rattle.std.proofs.lemmas.List.{get_or-replicate, length-replicate, reverse-append}
use Rattle.std.proofs.lemmas.Option.{get_or_from_slice_get}
use Rattle.std.proofs.Math.ListN.{replicate}
use Rattle.std.specs.List.{All, AllPairs, Contains}
use Rattle.std.specs.Prelude.{false, slice_set}

-- how many parts aren't marked
abbrev pub unmarked : List Bool → ℕ
unmarked [] = 0
unmarked (true ∷ marks) = unmarked marks
unmarked (false ∷ marks) = unmarked marks + 1

-- ==== what lists contain

pub one_in : {X : Type 0} (x y : X) → Contains (x ∷ []) y → x ≡ y
one_in x y (zero, within, is) = is
one_in x y (suc k, within, is) = absurd (omega (arith, within))

pub none_in : {X : Type 0} (xs : List X) (x : X) → length xs ≡ 0 → Contains xs x → ⊥
none_in xs x none has = absurd (omega (arith, none, has.1))

-- a list backwards has nothing else
in_reverse : {X : Type 0} (xs : List X) (x : X) → Contains (reverse xs) x → Contains xs x
in_reverse [] x has = has
in_reverse (y ∷ xs) x has = ⊎_elim
    (λ rest. Contains-append_right (y ∷ []) xs x (in_reverse xs x rest))
    (λ one. Contains-append_left (y ∷ []) xs x one)
    (Contains-append_cases (reverse xs) (y ∷ []) x (subst (λ l. Contains l x) (reverse-append (y ∷ []) xs) has))

reverse_in : {X : Type 0} (xs : List X) (x : X) → Contains xs x → Contains (reverse xs) x
reverse_in [] x has = has
reverse_in (y ∷ xs) x has = subst (λ l. Contains l x) (sym (reverse-append (y ∷ []) xs)) (⊎_elim
    (λ one. Contains-append_right (reverse xs) (y ∷ []) x one)
    (λ rest. Contains-append_left (reverse xs) (y ∷ []) x (reverse_in xs x rest))
    (Contains-append_cases (y ∷ []) xs x has))

-- ==== marks

mark_here : (marks : List Bool) (key : ℕ) (b : Bool) → slice_get marks key ≡ Some b → IsMarked (slice_set marks key true) key
mark_here [] key b is = cc
mark_here (m ∷ marks) zero b is = refl
mark_here (m ∷ marks) (suc key) b is = mark_here marks key b is

mark_more : (marks : List Bool) (key other : ℕ) → IsMarked marks other → IsMarked (slice_set marks key true) other
mark_more [] key other is = cc
mark_more (m ∷ marks) zero zero is = refl
mark_more (m ∷ marks) zero (suc other) is = is
mark_more (m ∷ marks) (suc key) zero is = is
mark_more (m ∷ marks) (suc key) (suc other) is = mark_more marks key other is

mark_back : (marks : List Bool) (key other : ℕ) → IsMarked (slice_set marks key true) other
    → (other ≡ key) ⊎ IsMarked marks other
mark_back [] key other is = cc
mark_back (m ∷ marks) zero zero is = inl refl
mark_back (m ∷ marks) zero (suc other) is = inr is
mark_back (m ∷ marks) (suc key) zero is = inr is
mark_back (m ∷ marks) (suc key) (suc other) is =
    ⊎_elim (λ here. inl (ap suc here)) (λ more. inr more) (mark_back marks key other is)

-- one more is marked
pub mark_fewer : (marks : List Bool) (key : ℕ) → slice_get marks key ≡ Some false
    → unmarked (slice_set marks key true) < unmarked marks
mark_fewer [] key is = cc
mark_fewer (true ∷ marks) zero is = absurd (true≢false (same_Some true false is))
mark_fewer (false ∷ marks) zero is = omega arith
mark_fewer (true ∷ marks) (suc key) is = mark_fewer marks key is
mark_fewer (false ∷ marks) (suc key) is = omega (arith, mark_fewer marks key is)

-- at first none is
pub no_marks : (n key : ℕ) → IsMarked (replicate n false) key → ⊥
no_marks n key is = true≢false (sym (get_or_from_slice_get (replicate n false) key true false is)
    ∙ get_or-replicate n key false false (subst (λ m. key < m) (length-replicate n false)
    (slice_get_within (replicate n false) key true is)))

-- the keys of all places are below an end
pub key_within : {T : Type 0} (D : DocumentState T) → IsDocumentKept D.state D.parts D.sites → (end : ℕ)
    → ((key : ℕ) → end ≤ key → slice_index_or D.parts key None ≡ None)
    → (p : Place) (key : ℕ) → part_in D p ≡ Some key → key < end
key_within D kept end none p key is =
    let led = led_part kept (id_in p) key is in
    ⊎_elim (λ lt. lt) (λ past. absurd (true≢false (ap is_some (sym led.1 ∙ none key past)))) (cases_lt key end)

-- ==== the last of those that wait

popped : {X : Type 0} (waiting rest : List X) (x y : X) → waiting ≡ rest ++ x ∷ [] → Contains waiting y
    → Contains rest y ⊎ (x ≡ y)
popped waiting rest x y is has = ⊎_elim (λ on. inl on) (λ last. inr (one_in x y last))
    (Contains-append_cases rest (x ∷ []) y (subst (λ l. Contains l y) is has))

pub still_waits : {X : Type 0} (waiting rest : List X) (x y : X) → waiting ≡ rest ++ x ∷ [] → Contains rest y
    → Contains waiting y
still_waits waiting rest x y is has = subst (λ l. Contains l y) (sym is) (Contains-append_left rest (x ∷ []) y has)

module _ {T : Type 0} (D : DocumentState T) where
  passed_first : (p : Place) (old new : List Bool) → MarksFirst D p old new → IsPassed D new p
  passed_first p old new first key at = subst (λ l. IsMarked l key) (sym first.3)
      (subst (λ k. IsMarked (slice_set old first.0 true) k) (same_Some first.0 key (sym first.1 ∙ at))
      (mark_here old first.0 false first.2))

  passed_more : (p : Place) (old new : List Bool) → MarksFirst D p old new → (q : Place) → IsPassed D old q
      → IsPassed D new q
  passed_more p old new first q is key at = subst (λ l. IsMarked l key) (sym first.3) (mark_more old first.0 key (is key at))

  -- of all those that waited each waits or was passed, also once the last comes to be marked, or was
  module _ (all waiting rest : List Place) (next : Place) (start marks : List Bool)
      (so : (q : Place) → Contains all q → Contains waiting q ⊎ IsPassed D start q)
      (same : marks ≡ start) (waits : waiting ≡ rest ++ next ∷ []) where
    pub passed_marked : (new : List Bool) → MarksFirst D next marks new
        → (q : Place) → Contains all q → Contains rest q ⊎ IsPassed D new q
    passed_marked new first q has = ⊎_elim
        (λ before. ⊎_elim (λ on. inl on) (λ one. inr (subst (IsPassed D new) one (passed_first next marks new first)))
        (popped waiting rest next q waits before))
        (λ is. inr (passed_more next marks new first q (subst (λ l. IsPassed D l q) (sym same) is))) (so q has)

    pub passed_still : IsPassed D marks next → (q : Place) → Contains all q → Contains rest q ⊎ IsPassed D start q
    passed_still passed q has = ⊎_elim
        (λ before. ⊎_elim (λ on. inl on)
        (λ one. inr (subst (IsPassed D start) one (subst (λ l. IsPassed D l next) same passed)))
        (popped waiting rest next q waits before))
        (λ is. inr is) (so q has)

module _ {T : Type 0} (D : DocumentState T) (top : Place) where
  -- each part whose key is marked is listed once, by a place that is the first or below it, and so are those
  -- that wait; and each child of what is listed waits or was passed
  pub record IsGathering (places waiting : List Place) (marks : List Bool) : Type 0 where
    pub marked : (key : ℕ) → IsMarked marks key → (p : Place) × Contains places p × (part_in D p ≡ Some key)
    pub listed : (p : Place) → Contains places p → (key : ℕ) × (part_in D p ≡ Some key) × IsMarked marks key
    pub once : AllPairs (λ p q. part_in D p ≢ part_in D q) places
    pub below : (p : Place) → Contains places p → IsBelowPlace D top p
    pub pending : (p : Place) → Contains waiting p → IsBelowPlace D top p
    pub closed : (p q : Place) → Contains places p → Contains (children_in D p) q
        → Contains waiting q ⊎ IsPassed D marks q
    pub begun : Contains waiting top ⊎ IsPassed D marks top

  pub gathering_begun : (marks : List Bool) → ((key : ℕ) → IsMarked marks key → ⊥) → IsGathering [] (top ∷ []) marks
  gathering_begun marks none = record {
    marked = λ key is. absurd (none key is);
    listed = λ p has. absurd (none_in [] p refl has);
    once = λ i j d lt within. absurd (omega (arith, within));
    below = λ p has. absurd (none_in [] p refl has);
    pending = λ p has. (0, one_in top p has);
    closed = λ p q has child. absurd (none_in [] p refl has);
    begun = inl (Contains-push [] top);
  }

  -- one more part is listed
  pub gathering_more : (places more waiting left next_waiting : List Place) (marks new : List Bool) (next : Place)
      → IsGathering places waiting marks → Contains waiting next → MarksFirst D next marks new
      → ((q : Place) → Contains left q → Contains waiting q)
      → ((q : Place) → Contains waiting q → Contains left q ⊎ IsPassed D new q)
      → more ≡ places ++ next ∷ [] → next_waiting ≡ left ++ reverse (children_in D next)
      → IsGathering more next_waiting new
  gathering_more places more waiting left next_waiting marks new next so has first still passed goes waits =
      subst (λ l. IsGathering l next_waiting new) (sym goes)
      (subst (λ l. IsGathering (places ++ next ∷ []) l new) (sym waits) grown)
    where
      key : ℕ
      key = first.0

      kept : (q : Place) → IsPassed D marks q → IsPassed D new q
      kept q is k at = subst (λ l. IsMarked l k) (sym first.3) (mark_more marks key k (is k at))

      -- what waited waits, or was passed
      further : (q : Place) → Contains waiting q ⊎ IsPassed D marks q
          → Contains (left ++ reverse (children_in D next)) q ⊎ IsPassed D new q
      further q was = ⊎_elim
          (λ waits. ⊎_elim (λ on. inl (Contains-append_left left (reverse (children_in D next)) q on)) (λ is. inr is) (passed q waits))
          (λ is. inr (kept q is)) was

      apart : (p : Place) → Contains places p → part_in D p ≢ part_in D next
      apart p within same =
          let at = so.listed p within in
          let is : at.0 ≡ key = same_Some at.0 key (sym at.1 ∙ (same ∙ first.1)) in
          true≢false (same_Some true false (sym (subst (IsMarked marks) is at.2) ∙ first.2))

      grown : IsGathering (places ++ next ∷ []) (left ++ reverse (children_in D next)) new
      grown = record {
        marked = λ k is. ⊎_elim
            (λ here. (next, Contains-push places next, first.1 ∙ ap Some (sym here)))
            (λ before. let at = so.marked k before in (at.0, Contains-append_left places (next ∷ []) at.0 at.1, at.2))
            (mark_back marks key k (subst (λ l. IsMarked l k) first.3 is));
        listed = λ p within. ⊎_elim
            (λ before. let at = so.listed p before in
            (at.0, at.1, subst (λ l. IsMarked l at.0) (sym first.3) (mark_more marks key at.0 at.2)))
            (λ last. (
              key,
              subst (λ q. part_in D q ≡ Some key) (one_in next p last) first.1,
              subst (λ l. IsMarked l key) (sym first.3) (mark_here marks key false first.2),
            ))
            (Contains-append_cases places (next ∷ []) p within);
        once = all_pairs_push (λ p q. part_in D p ≢ part_in D q) places next so.once
            (λ k d within. apart _ (Contains-get_or places k d within));
        below = λ p within. ⊎_elim (λ before. so.below p before)
            (λ last. subst (IsBelowPlace D top) (one_in next p last) (so.pending next has))
            (Contains-append_cases places (next ∷ []) p within);
        pending = λ p waits. ⊎_elim (λ before. so.pending p (still p before))
            (λ child. let up = so.pending next has in
            (suc up.0, (next, up.1, in_reverse (children_in D next) p child)))
            (Contains-append_cases left (reverse (children_in D next)) p waits);
        closed = λ p q within child. ⊎_elim (λ before. further q (so.closed p q before child))
            (λ last. inl (Contains-append_right left (reverse (children_in D next)) q
            (reverse_in (children_in D next) q (subst (λ r. Contains (children_in D r) q) (sym (one_in next p last)) child))))
            (Contains-append_cases places (next ∷ []) p within);
        begun = further top so.begun;
      }

  -- if none waits, each place that is the first or below it was passed
  module _ {places waiting : List Place} {marks : List Bool} (so : IsGathering places waiting marks)
      (none : (q : Place) → Contains waiting q → IsPassed D marks q) where
    alike : (p : Place) (key : Option ℕ) → part_in D p ≡ key
        → children_in D p ≡ unwrap_or (children_shown (shown_of (part_at D.parts key))) []
    alike p key is = ap (λ o. unwrap_or (children_shown (shown_of (part_at D.parts o))) []) is

    passed_by : (q : Place) → Contains waiting q ⊎ IsPassed D marks q → IsPassed D marks q
    passed_by q was = ⊎_elim (none q) (λ is. is) was

    passed_child : (p q : Place) → Contains (children_in D p) q → IsPassed D marks p → IsPassed D marks q
    passed_child p q child above = from (part_in D p) refl
      where
        from : (key : Option ℕ) → part_in D p ≡ key → IsPassed D marks q
        from None gone = absurd (none_in (children_in D p) q (ap length (alike p None gone)) child)
        from (Some key) at =
            let r = so.marked key (above key at) in
            passed_by q (so.closed r.0 q r.1
            (subst (λ l. Contains l q) (alike p (Some key) at ∙ sym (alike r.0 (Some key) r.2)) child))

    passed_below : (n : ℕ) (q : Place) → IsBelowBy D n top q → IsPassed D marks q
    passed_below zero q is = subst (IsPassed D marks) is (passed_by top so.begun)
    passed_below (suc n) q (p, above, child) = passed_child p q child (passed_below n p above)

    pub gathered_every : (q : Place) → IsBelowPlace D top q → is_some (shown_in D q) ≡ true
        → (p : Place) × Contains places p × (part_in D p ≡ part_in D q)
    gathered_every q below live = from (part_in D q) refl
      where
        from : (key : Option ℕ) → part_in D q ≡ key → (p : Place) × Contains places p × (part_in D p ≡ part_in D q)
        from None gone = absurd (true≢false (sym live ∙ ap (λ o. is_some (shown_of (part_at D.parts o))) gone))
        from (Some key) at =
            let r = so.marked key (passed_below below.0 q below.1 key at) in (r.0, r.1, r.2 ∙ sym at)

    pub gathered_below : All (IsBelowPlace D top) places
    gathered_below = All-weaker (Contains places) (IsBelowPlace D top) so.below places (All-contains_itself places)

    pub gathered_live : IsDocumentKept D.state D.parts D.sites → All (λ p. is_some (shown_in D p) ≡ true) places
    gathered_live kept = All-weaker (Contains places) (λ p. is_some (shown_in D p) ≡ true)
        (λ p within. live_shows kept p ∙ ap is_some (so.listed p within).1) places (All-contains_itself places)

module _ {T : Type 0} (D : DocumentState T) (top : Place) where
  -- the first is listed first, or waits alone
  abbrev pub IsFirst : List Place → List Place → List Bool → Type 0
  IsFirst places waiting marks = ((places ≡ []) × (waiting ≡ top ∷ []) × ((key : ℕ) → IsMarked marks key → ⊥))
      ⊎ (slice_get places 0 ≡ Some top)

  first_pushed : (places : List Place) (next : Place) → slice_get places 0 ≡ Some top
      → slice_get (places ++ next ∷ []) 0 ≡ Some top
  first_pushed [] next is = absurd (none-some top is)
  first_pushed (p ∷ places) next is = is

  pub first_more : (places more waiting left : List Place) (next : Place) (marks new : List Bool)
      → IsFirst places waiting marks → Contains waiting next → more ≡ places ++ next ∷ [] → IsFirst more left new
  first_more places more waiting left next marks new so has is = inr (subst (λ l. slice_get l 0 ≡ Some top) (sym is) (⊎_elim
      (λ begun. subst (λ l. slice_get (l ++ next ∷ []) 0 ≡ Some top) (sym begun.0)
      (ap Some (sym (one_in top next (subst (λ l. Contains l next) begun.1 has)))))
      (λ first. first_pushed places next first) so))

  -- so in the end it is listed first, if it is live
  pub first_listed : (places waiting : List Place) (marks : List Bool) → IsFirst places waiting marks
      → ((q : Place) → Contains waiting q → IsPassed D marks q) → is_some (shown_in D top) ≡ true
      → slice_get places 0 ≡ Some top
  first_listed places waiting marks so none live = ⊎_elim
      (λ begun. absurd (dead (none top (subst (λ l. Contains l top) (sym begun.1) (0, omega arith, refl))) begun.2))
      (λ first. first) so
    where
      dead : IsPassed D marks top → ((key : ℕ) → IsMarked marks key → ⊥) → ⊥
      dead passed unmarked = from (part_in D top) refl
        where
          from : (key : Option ℕ) → part_in D top ≡ key → ⊥
          from None gone = true≢false (sym live ∙ ap (λ o. is_some (shown_of (part_at D.parts o))) gone)
          from (Some key) at = unmarked key (passed key at)
