-- Lists of live places by flags of their slots, and a document of which only flagged places are left.
use Rattle.document_tree.proofs.Gathering.{none_in, one_in}
use Rattle.document_tree.proofs.Keeping.Common.{ap, arith, Bool, by_number, by_option, children_in, children_shown, created_at, DocumentState, false, GenerationalBoxId}
use Rattle.document_tree.proofs.Keeping.Common.{GenerationalPointer, get_or-set_other, get_or-set_same, id_in, inl, inr, IsBelowPlace, IsDocumentKept, IsOther, IsSimple, is_some, IsSound}
use Rattle.document_tree.proofs.Keeping.Common.{key_cases, Leaves, length, List, None, none-some, part_at, part_in, Place, pointer_in, refl, same_Some}
use Rattle.document_tree.proofs.Keeping.Common.{Shown, shown_in, shown_of, slice_get, slice_get_within, slice_index_or, slot_in, Some, subst, suc, sym, true, true≢false}
use Rattle.document_tree.proofs.Keeping.Common.{IsSame, unwrap_or, ◌++◌, value_in, WasPlaced, zero, All, Option, ℕ, [], ⊎_elim, ◌+◌, ◌<◌, ◌∙◌, ◌∷◌, ◌≡◌, ◌≢◌, ◌≤◌, ◌⊎◌}
use Rattle.document_tree.proofs.Keeping.{left_by, live_shows, one_or_two}
use Rattle.document_tree.proofs.Planning.{one_place, some_of}
use Rattle.document_tree.specs.Flagging.{AreFlagged, AreListed, Flags, IsFlagged}
use Rattle.std.proofs.lemmas.List.Elements.{All-contains, All-nil, All-push, Contains-append_cases, Contains-append_left, Contains-get_or, Contains-push}
use Rattle.std.proofs.lemmas.List.Quantifiers.{all_pairs_push}
use Rattle.std.proofs.lemmas.List.{length-set}
use Rattle.std.proofs.lemmas.Option.{get_or_from_slice_get, slice_get-get_or}
use Rattle.std.proofs.Math.ListN.{replicate}
use Rattle.std.specs.List.{Contains}
use Rattle.std.specs.Prelude.{slice_set}

-- ==== the first elements of a list

abbrev pub IsAmongFirst : List Place → ℕ → Place → Type 0
IsAmongFirst places n p = (k : ℕ) × (k < n) × (slice_get places k ≡ Some p)

among_at : {X : Type 0} (xs : List X) (x : X) (has : Contains xs x) → slice_get xs has.0 ≡ Some x
among_at [] x has = absurd (none_in [] x refl has)
among_at (y ∷ xs) x (zero, within, is) = ap Some is
among_at (y ∷ xs) x (suc k, within, is) = among_at xs x (k, omega (arith, within), is)

contains_at : {X : Type 0} (xs : List X) (k : ℕ) (x : X) → slice_get xs k ≡ Some x → Contains xs x
contains_at xs k x is = subst (Contains xs) (get_or_from_slice_get xs k x x is)
    (Contains-get_or xs k x (slice_get_within xs k x is))

-- the default is read of no element
pub read_any : {X : Type 0} (xs : List X) (k : ℕ) (d e : X) → k < length xs → slice_index_or xs k d ≡ slice_index_or xs k e
read_any xs k d e lt = same_Some _ _ (sym (slice_get-get_or xs k d lt) ∙ slice_get-get_or xs k e lt)

pub first_of : (xs : List Place) (n : ℕ) (x : Place) → length xs ≤ n → Contains xs x → IsAmongFirst xs n x
first_of xs n x whole has =
    let at = among_at xs x has in (has.0, omega (arith, slice_get_within xs has.0 x at, whole), at)

pub all_of : (xs : List Place) (n : ℕ) (x : Place) → IsAmongFirst xs n x → Contains xs x
all_of xs n x is = contains_at xs is.0 x is.2

-- with one more
module _ (xs : List Place) (n : ℕ) (x : Place) (here : slice_get xs n ≡ Some x) (p : Place) where
  pub first_cases : IsAmongFirst xs (n + 1) p → IsAmongFirst xs n p ⊎ (p ≡ x)
  first_cases is = ⊎_elim
      (λ same. inr (same_Some p x (sym is.2 ∙ (ap (slice_get xs) same ∙ here))))
      (λ ne. inl (is.0, omega (arith, is.1, ne), is.2))
      (key_cases by_number is.0 n)

  pub first_before : IsAmongFirst xs n p → IsAmongFirst xs (n + 1) p
  first_before is = (is.0, omega (arith, is.1), is.2)

  pub first_here : p ≡ x → IsAmongFirst xs (n + 1) p
  first_here is = (n, omega arith, here ∙ ap Some (sym is))

-- ==== flags

pub none_flagged : (n slot : ℕ) → IsFlagged (replicate n false) slot → ⊥
none_flagged zero slot is = true≢false (sym is)
none_flagged (suc n) zero is = true≢false (sym is)
none_flagged (suc n) (suc slot) is = none_flagged n slot is

module _ {T : Type 0} (D : DocumentState T) where
  pub flags_none : (P : Place → Type 0) (flags : List Bool) → ((p : Place) → P p → ⊥) → Flags D P flags flags
  flags_none P flags none = record {
    every = λ p is live. absurd (none p is);
    only = λ slot is. inl is;
    kept = λ slot is. is;
    length = refl;
  }

  -- first for those with one property, then for those with another
  pub flags_then : {P Q R : Place → Type 0} {a b c : List Bool} → Flags D P a b → Flags D Q b c
      → ((p : Place) → R p → P p ⊎ Q p) → ((p : Place) → P p → R p) → ((p : Place) → Q p → R p) → Flags D R a c
  flags_then one two cases left right = record {
    every = λ p is live. ⊎_elim (λ was. two.kept (slot_in p) (one.every p was live)) (λ more. two.every p more live) (cases p is);
    only = λ slot is. ⊎_elim
        (λ before. ⊎_elim (λ old. inl old) (λ it. inr (it.0, left it.0 it.1, it.2, it.3)) (one.only slot before))
        (λ it. inr (it.0, right it.0 it.1, it.2, it.3)) (two.only slot is);
    kept = λ slot is. two.kept slot (one.kept slot is);
    length = two.length ∙ one.length;
  }

  pub flags_alike : {P Q : Place → Type 0} {a b : List Bool} → Flags D P a b → ((p : Place) → P p → Q p)
      → ((p : Place) → Q p → P p) → Flags D Q a b
  flags_alike so to back = record {
    every = λ p is live. so.every p (back p is) live;
    only = λ slot is. ⊎_elim (λ old. inl old) (λ it. inr (it.0, to it.0 it.1, it.2, it.3)) (so.only slot is);
    kept = so.kept;
    length = so.length;
  }

  -- the slot of a live place
  pub flags_one : (p : Place) (flags : List Bool) → slot_in p < length flags → is_some (part_in D p) ≡ true
      → Flags D (λ q. q ≡ p) flags (slice_set flags (slot_in p) true)
  flags_one p flags within live = record {
    every = λ q is l. subst (λ r. IsFlagged (slice_set flags (slot_in p) true) (slot_in r)) (sym is) here;
    only = λ slot is. ⊎_elim (λ same. inr (p, refl, live, sym same))
        (λ other. inl (sym (get_or-set_other flags (slot_in p) slot true false other) ∙ is))
        (key_cases by_number slot (slot_in p));
    kept = λ slot is. ⊎_elim (λ same. subst (IsFlagged (slice_set flags (slot_in p) true)) (sym same) here)
        (λ other. get_or-set_other flags (slot_in p) slot true false other ∙ is)
        (key_cases by_number slot (slot_in p));
    length = length-set flags _ _;
  }
    where
      here : IsFlagged (slice_set flags (slot_in p) true) (slot_in p)
      here = get_or-set_same flags (slot_in p) true false within

  -- beside none
  pub flagged_first : {P Q : Place → Type 0} {a b : List Bool} → Flags D P a b → ((slot : ℕ) → IsFlagged a slot → ⊥)
      → ((p : Place) → P p → Q p) → ((p : Place) → Q p → P p) → AreFlagged D Q b
  flagged_first so none to back = record {
    every = λ p is live. so.every p (back p is) live;
    only = λ slot is. ⊎_elim (λ old. absurd (none slot old)) (λ it. (it.0, to it.0 it.1, it.2, it.3)) (so.only slot is);
  }

  -- and then for more
  pub flagged_then : {P Q R : Place → Type 0} {a b : List Bool} → AreFlagged D P a → Flags D Q a b
      → ((p : Place) → R p → P p ⊎ Q p) → ((p : Place) → P p → R p) → ((p : Place) → Q p → R p) → AreFlagged D R b
  flagged_then one two cases left right = record {
    every = λ p is live. ⊎_elim (λ was. two.kept (slot_in p) (one.every p was live)) (λ more. two.every p more live) (cases p is);
    only = λ slot is. ⊎_elim
        (λ before. let it = one.only slot before in (it.0, left it.0 it.1, it.2, it.3))
        (λ it. (it.0, right it.0 it.1, it.2, it.3)) (two.only slot is);
  }

  pub flagged_alike : {P Q : Place → Type 0} {flags : List Bool} → AreFlagged D P flags → ((p : Place) → P p → Q p)
      → ((p : Place) → Q p → P p) → AreFlagged D Q flags
  flagged_alike so to back = record {
    every = λ p is live. so.every p (back p is) live;
    only = λ slot is. let it = so.only slot is in (it.0, to it.0 it.1, it.2, it.3);
  }

-- ==== a list of all live places

module _ {T : Type 0} (D : DocumentState T) where
  -- the places of the first cells are flagged
  abbrev pub AreMet : List GenerationalPointer → List Bool → ℕ → Type 0
  AreMet cells flags n = (k : ℕ) (b : GenerationalPointer) (q : Place) → k < n → slice_get cells k ≡ Some b
      → id_in q ≡ b.id → is_some (shown_in D q) ≡ true → IsFlagged flags b.id.slot

  pub met_more : (cells : List GenerationalPointer) (old new : List Bool) (n : ℕ) (b : GenerationalPointer)
      → slice_get cells n ≡ Some b
      → ((p : Place) → id_in p ≡ b.id → is_some (shown_in D p) ≡ true → IsFlagged new b.id.slot)
      → ((slot : ℕ) → IsFlagged old slot → IsFlagged new slot) → AreMet cells old n → AreMet cells new (n + 1)
  met_more cells old new n b here flags keeps so k c q lt at same live = ⊎_elim
      (λ one. let is : c ≡ b = same_Some c b (sym at ∙ (ap (slice_get cells) one ∙ here)) in
      subst (λ (x : GenerationalPointer). IsFlagged new x.id.slot) (sym is)
      (flags q (same ∙ ap (λ (x : GenerationalPointer). x.id) is) live))
      (λ ne. keeps c.id.slot (so k c q (omega (arith, lt, ne)) at same live))
      (key_cases by_number k n)

module _ {T : Type 0} (D : DocumentState T) (kept : IsDocumentKept D.state D.parts D.sites) where
  pub listed_none : (flags : List Bool) → ((slot : ℕ) → IsFlagged flags slot → ⊥) → AreListed D [] flags
  listed_none flags none = record {
    live = All-nil (λ p. is_some (shown_in D p) ≡ true);
    once = λ i j d lt within. absurd (omega (arith, within));
    flagged = record {
      every = λ p has. absurd (none_in [] p refl has);
      only = λ slot is. absurd (none slot is);
    };
  }

  -- with one more, whose slot wasn't flagged
  pub listed_more : {places more : List Place} {flags : List Bool} (p : Place) (slot : ℕ) → AreListed D places flags
      → slot_in p ≡ slot → slot < length flags → slice_index_or flags slot false ≡ false
      → is_some (shown_in D p) ≡ true → more ≡ places ++ p ∷ [] → AreListed D more (slice_set flags slot true)
  listed_more {places} {more} {flags} p slot so at within unset shown goes =
      subst (λ l. AreListed D l (slice_set flags slot true)) (sym goes)
      (subst (λ s. AreListed D (places ++ p ∷ []) (slice_set flags s true)) at (record {
        live = All-push (λ q. is_some (shown_in D q) ≡ true) places p so.live shown;
        once = all_pairs_push IsOther places p so.once (λ k d lt. apart _ (Contains-get_or places k d lt));
        flagged = flagged_then D so.flagged (flags_one D p flags (subst (λ s. s < length flags) (sym at) within) (part_shown p shown))
            (λ q has. ⊎_elim (λ on. inl on) (λ last. inr (sym (one_in p q last))) (Contains-append_cases places (p ∷ []) q has))
            (λ q has. Contains-append_left places (p ∷ []) q has)
            (λ q is. subst (Contains (places ++ p ∷ [])) (sym is) (Contains-push places p));
      }))
    where
      part_shown : (q : Place) → is_some (shown_in D q) ≡ true → is_some (part_in D q) ≡ true
      part_shown q is = sym (live_shows kept q) ∙ is

      apart : (q : Place) → Contains places q → IsOther q p
      apart q has same = true≢false (sym (so.flagged.every q has
          (part_shown q (All-contains (λ r. is_some (shown_in D r) ≡ true) places q so.live has)))
          ∙ (ap (λ (i : GenerationalBoxId). slice_index_or flags i.slot false) same
          ∙ (ap (λ s. slice_index_or flags s false) at ∙ unset)))

  -- once all cells were met, each live place is listed
  pub listed_whole : IsSound D.state → (cells : List GenerationalPointer)
      → ((b : GenerationalPointer) → is_some (value_in D.state b) ≡ true
      → (k : ℕ) × (c : GenerationalPointer) × (slice_get cells k ≡ Some c) × (c.id ≡ b.id))
      → (n : ℕ) → length cells ≤ n → (places : List Place) (flags : List Bool) → AreListed D places flags
      → AreMet D cells flags n → (q : Place) → is_some (shown_in D q) ≡ true
      → (p : Place) × Contains places p × IsSame p q
  listed_whole sound cells every n whole places flags so done q shown =
      let live = sym (live_shows kept q) ∙ shown in
      let it = every (pointer_in q) live in
      let at = so.flagged.only it.1.id.slot (done it.0 it.1 q
      (omega (arith, slice_get_within cells it.0 it.1 it.2, whole)) it.2 (sym it.3) shown) in
      let one = some_of (part_in D at.0) at.2 in
      let two = some_of (part_in D q) live in (
        at.0,
        at.1,
        one_place sound kept.simple (id_in at.0) (id_in q) one.0 two.0 one.1 two.1
            (at.3 ∙ ap (λ (i : GenerationalBoxId). i.slot) it.3),
      )

-- what has no content refers to no part
pub parted_of : {T : Type 0} (D : DocumentState T) → IsDocumentKept D.state D.parts D.sites → (q : Place)
    → shown_in D q ≡ None → part_in D q ≡ None
parted_of D kept q none = by_option (part_in D q) (λ is. is)
    (λ key led. absurd (true≢false (sym (live_shows kept q ∙ ap is_some led) ∙ ap is_some none)))

-- ==== a place and those below it, by the parts that are listed once

module _ {T : Type 0} (D : DocumentState T) where
  -- what has a child has a part
  parent_shown : (r p : Place) → Contains (children_in D r) p → is_some (shown_in D r) ≡ true
  parent_shown r p child = from (shown_in D r) refl
    where
      from : (o : Option (Shown T)) → shown_in D r ≡ o → is_some (shown_in D r) ≡ true
      from None gone = absurd (none_in (children_in D r) p (ap (λ o. length (unwrap_or (children_shown o) [])) gone) child)
      from (Some s) is = ap is_some is

  alike_children : (p r : Place) → part_in D p ≡ part_in D r → children_in D p ≡ children_in D r
  alike_children p r same = ap (λ o. unwrap_or (children_shown (shown_of (part_at D.parts o))) []) same

  module _ (top : Place) (places : List Place) where
    -- the place, and the children of the first places
    abbrev pub IsMet : ℕ → Place → Type 0
    IsMet n p = (p ≡ top) ⊎ ((r : Place) × IsAmongFirst places n r × Contains (children_in D r) p)

    pub met_none : (p : Place) → IsMet 0 p → p ≡ top
    met_none p is = ⊎_elim (λ one. one) (λ child. absurd (omega (arith, child.1.1))) is

    module _ (n : ℕ) (x : Place) (here : slice_get places n ≡ Some x) (p : Place) where
      pub met_cases : IsMet (n + 1) p → IsMet n p ⊎ Contains (children_in D x) p
      met_cases is = ⊎_elim (λ one. inl (inl one))
          (λ child. ⊎_elim (λ before. inl (inr (child.0, before, child.2)))
          (λ last. inr (subst (λ r. Contains (children_in D r) p) last child.2))
          (first_cases places n x here child.0 child.1)) is

      pub met_before : IsMet n p → IsMet (n + 1) p
      met_before is = ⊎_elim (λ one. inl one)
          (λ child. inr (child.0, first_before places n x here child.0 child.1, child.2)) is

      pub met_here : Contains (children_in D x) p → IsMet (n + 1) p
      met_here child = inr (x, first_here places n x here x refl, child)

    -- these are the place and those below it, if each part below is listed
    pub met_below : All (IsBelowPlace D top) places → (n : ℕ) (p : Place) → IsMet n p → IsBelowPlace D top p
    met_below all n p is = ⊎_elim (λ one. (0, sym one))
        (λ child. let up = All-contains (IsBelowPlace D top) places child.0 all (all_of places n child.0 child.1) in
        (suc up.0, (child.0, up.1, child.2))) is

    pub below_met : (n : ℕ) → length places ≤ n
        → ((q : Place) → IsBelowPlace D top q → is_some (shown_in D q) ≡ true
        → (p : Place) × Contains places p × (part_in D p ≡ part_in D q))
        → (p : Place) → IsBelowPlace D top p → IsMet n p
    below_met n whole every p (zero, is) = inl (sym is)
    below_met n whole every p (suc m, (r, above, child)) =
        let it = every r (m, above) (parent_shown r p child) in
        inr (it.0, first_of places n it.0 whole it.1, subst (λ l. Contains l p) (alike_children r it.0 (sym it.2)) child)

-- ==== the removal of what isn't flagged

module _ {T : Type 0} (D : DocumentState T) (top : Place) (flags : List Bool) (cells : List GenerationalPointer) where
  -- the places of the first cells without a flag are removed, and nothing at the place or below it is changed
  pub record IsSwept (n : ℕ) (E : DocumentState T) : Type 0 where
    pub below : (q : Place) → IsBelowPlace D top q → Leaves D q E
    pub none : (q : Place) → part_in D q ≡ None → part_in E q ≡ None
    pub gone : (k : ℕ) (b : GenerationalPointer) (q : Place) → k < n → slice_get cells k ≡ Some b
        → slice_index_or flags b.id.slot false ≡ false → id_in q ≡ b.id → part_in E q ≡ None
    pub tells : (q : Place) → created_at E q ≡ created_at D q
    pub kept : (q : Place) → WasPlaced D q → WasPlaced E q

  pub swept_none : IsSwept 0 D
  swept_none = record {
    below = λ q is. record { part = refl; shown = refl };
    none = λ q is. is;
    gone = λ k b q lt. absurd (omega (arith, lt));
    tells = λ q. refl;
    kept = λ q is. is;
  }

  module _ (n : ℕ) (b : GenerationalPointer) (here : slice_get cells n ≡ Some b) {E : DocumentState T} (so : IsSwept n E) where
    -- a cell whose slot is flagged is passed over
    pub swept_past : slice_index_or flags b.id.slot false ≡ true → IsSwept (n + 1) E
    swept_past flag = record {
      below = so.below;
      none = so.none;
      gone = λ k c q lt at unset same. ⊎_elim
          (λ one. absurd (true≢false (sym flag ∙ subst (λ (x : GenerationalPointer). slice_index_or flags x.id.slot false ≡ false)
          (same_Some c b (sym at ∙ (ap (slice_get cells) one ∙ here))) unset)))
          (λ ne. so.gone k c q (omega (arith, lt, ne)) at unset same)
          (key_cases by_number k n);
      tells = so.tells;
      kept = so.kept;
    }

    pub swept_more : AreFlagged D (IsBelowPlace D top) flags → slice_index_or flags b.id.slot false ≡ false
        → (F : DocumentState T) → ((q : Place) → id_in q ≡ b.id → part_in F q ≡ None)
        → ((q : Place) → id_in q ≢ b.id → Leaves E q F) → ((q : Place) → created_at F q ≡ created_at E q)
        → ((q : Place) → WasPlaced E q → WasPlaced F q) → IsSwept (n + 1) F
    swept_more flagged unset F ended others tells kept = record {
      below = λ q is. ⊎_elim
          (λ same. left_by q (ended q same ∙ sym (dead q is same)) (λ key led. absurd (none-some key (sym (dead q is same) ∙ led))))
          (λ ne. let was = so.below q is in let now_is = others q ne in
          record { part = now_is.part ∙ was.part; shown = now_is.shown ∙ was.shown })
          (one_or_two (id_in q) b.id);
      none = λ q is. still q (so.none q is);
      gone = λ k c q lt at free same. ⊎_elim
          (λ one. ended q (same ∙ ap (λ (x : GenerationalPointer). x.id) (same_Some c b (sym at ∙ (ap (slice_get cells) one ∙ here)))))
          (λ ne. still q (so.gone k c q (omega (arith, lt, ne)) at free same))
          (key_cases by_number k n);
      tells = λ q. tells q ∙ so.tells q;
      kept = λ q is. kept q (so.kept q is);
    }
      where
        still : (q : Place) → part_in E q ≡ None → part_in F q ≡ None
        still q is = ⊎_elim (λ same. ended q same) (λ ne. (others q ne).part ∙ is) (one_or_two (id_in q) b.id)

        -- a place below whose slot has no flag isn't live
        dead : (q : Place) → IsBelowPlace D top q → id_in q ≡ b.id → part_in D q ≡ None
        dead q is same = by_option (part_in D q) (λ none. none)
            (λ key led. absurd (true≢false (sym (flagged.every q is (ap is_some led))
            ∙ (ap (λ (i : GenerationalBoxId). slice_index_or flags i.slot false) same ∙ unset))))

  -- once all cells were met, each place that is neither the place nor below it is removed
  pub swept_whole : IsSound D.state → IsSimple D.state → AreFlagged D (IsBelowPlace D top) flags
      → ((b : GenerationalPointer) → is_some (value_in D.state b) ≡ true
      → (k : ℕ) × (c : GenerationalPointer) × (slice_get cells k ≡ Some c) × (c.id ≡ b.id))
      → (n : ℕ) → length cells ≤ n → (E : DocumentState T) → IsSwept n E
      → (q : Place) → ((p : Place) → IsBelowPlace D top p → IsOther p q) → part_in E q ≡ None
  swept_whole sound simple flagged every n whole E so q outside = by_option (part_in D q) (λ none. so.none q none)
      (λ key led. let it = every (pointer_in q) (ap is_some led) in from it.0 it.1 key led it.2 it.3
      (slice_index_or flags it.1.id.slot false) refl)
    where
      from : (k : ℕ) (c : GenerationalPointer) (key : ℕ) → part_in D q ≡ Some key → slice_get cells k ≡ Some c → c.id ≡ id_in q
          → (flag : Bool) → slice_index_or flags c.id.slot false ≡ flag → part_in E q ≡ None
      from k c key led at same false unset =
          so.gone k c q (omega (arith, slice_get_within cells k c at, whole)) at unset (sym same)
      from k c key led at same true flag =
          let it = flagged.only c.id.slot flag in
          let live = some_of (part_in D it.0) it.2 in
          absurd (outside it.0 it.1 (one_place sound simple (id_in it.0) (id_in q) live.0 key live.1 led
          (it.3 ∙ ap (λ (i : GenerationalBoxId). i.slot) same)))
