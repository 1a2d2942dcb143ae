-- What a tree of documents keeps.
pub mod Common
unfoldable pub use Common.*

-- ==== counted things

-- what has one property has another, and none else has
pub counted_alike : {X : Type 0} (n : ℕ) (P Q : X → Type 0) → ((x : X) → P x → Q x) → ((x : X) → Q x → P x)
    → AreExactly n P → AreExactly n Q
counted_alike zero P Q to back none = λ x is. none x (back x is)
counted_alike (suc n) P Q to back k = (
  k.0,
  to k.0 k.1,
  counted_alike n (without_one P k.0) (without_one Q k.0) (λ x h. (to x h.0, h.1))
      (λ x h. (back x h.0, h.1)) k.2,
)

module _ {X : Type 0} (same : (x y : X) → (x ≡ y) ⊎ (x ≢ y)) where
  -- without one of them there is one less
  pub counted_less : (n : ℕ) (P : X → Type 0) (x : X) → P x → AreExactly n P
      → (m : ℕ) × (n ≡ suc m) × AreExactly m (without_one P x)
  counted_less zero P x is none = absurd (none x is)
  counted_less (suc n) P x is k = ⊎_elim
      (λ one. (
        n,
        refl,
        counted_alike n (without_one P k.0) (without_one P x) (λ y h. (h.0, λ e. h.1 (e ∙ sym one)))
            (λ y h. (h.0, λ e. h.1 (e ∙ one))) k.2,
      ))
      (λ two. let it = counted_less n (without_one P k.0) x (is, λ e. two (sym e)) k.2 in (
        suc it.0,
        ap suc it.1,
        (
          k.0,
          (k.1, two),
          counted_alike it.0 (without_one (without_one P k.0) x) (without_one (without_one P x) k.0)
              (λ y h. ((h.0.0, h.1), h.0.1)) (λ y h. ((h.0.0, h.1), h.0.1)) it.2,
        ),
      ))
      (same k.0 x)

  -- with one more
  pub counted_more : (n : ℕ) (P Q : X → Type 0) (x : X) → Q x → (P x → ⊥) → ((y : X) → P y → Q y)
      → ((y : X) → y ≢ x → Q y → P y) → AreExactly n P → AreExactly (suc n) Q
  counted_more n P Q x is free to back k =
      (x, is, counted_alike n P (without_one Q x) (λ y h. (to y h, λ e. free (subst P e h))) (λ y h. back y h.1 h.0) k)

  -- a single one is alone
  pub counted_one : (P : X → Type 0) (x y : X) → P x → P y → AreExactly 1 P → x ≡ y
  counted_one P x y is has k =
      let it = counted_less 1 P x is k in
      let few : it.0 ≡ 0 = omega (arith, it.1) in
      let none = subst (λ m. AreExactly m (without_one P x)) few it.2 in
      ⊎_elim (λ one. sym one) (λ two. absurd (none y (has, two))) (same y x)

  pub counted_alone : (n : ℕ) (P : X → Type 0) (x : X) → P x → ((y : X) → y ≢ x → P y → ⊥) → AreExactly n P
      → n ≡ 1
  counted_alone n P x is alone k = let it = counted_less n P x is k in it.1 ∙ ap suc (nothing it.0 it.2)
    where
      nothing : (m : ℕ) → AreExactly m (without_one P x) → m ≡ 0
      nothing zero none = refl
      nothing (suc m) some = absurd (alone some.0 some.1.1 some.1.0)

  -- there are no more of them than slots, if each has one of its own
  module _ (slot : X → ℕ) where
    found : (n : ℕ) (P : X → Type 0) (s : ℕ) → AreExactly n P
        → ((x : X) × P x × (slot x ≡ s)) ⊎ ((x : X) → P x → slot x ≢ s)
    found zero P s none = inr (λ x is. absurd (none x is))
    found (suc n) P s k = ⊎_elim (λ at. inl (k.0, k.1, at))
        (λ off. ⊎_elim (λ it. inl (it.0, it.1.0, it.2))
        (λ off_all. inr (λ x is at. ⊎_elim (λ one. off (ap slot (sym one) ∙ at)) (λ two. off_all x (is, two) at) (same x k.0)))
        (found n (without_one P k.0) s k.2))
        (key_cases by_number (slot k.0) s)

    pub counted_within : (m n : ℕ) (P : X → Type 0) → ((x : X) → P x → slot x < m)
        → ((x y : X) → P x → P y → slot x ≡ slot y → x ≡ y) → AreExactly n P → n ≤ m
    counted_within m zero P below one k = omega arith
    counted_within zero (suc n) P below one k = absurd (omega (arith, below k.0 k.1))
    counted_within (suc m) (suc n) P below one k = ⊎_elim
        (λ it. let less = counted_less (suc n) P it.0 it.1 k in
        let fits = counted_within m less.0 (without_one P it.0)
        (λ y h. let lt = below y h.0 in
        let apart : slot y ≢ m = λ at. h.1 (one y it.0 h.0 it.1 (at ∙ sym it.2)) in omega (arith, lt, apart))
        (λ y z h i at. one y z h.0 i.0 at) less.2 in omega (arith, fits, less.1))
        (λ off. let fits = counted_within m (suc n) P
        (λ x is. let lt = below x is in let apart = off x is in omega (arith, lt, apart)) one k in omega (arith, fits))
        (found (suc n) P m k)

-- ==== what a document stores, as one of its places comes to refer to another part

pub one_or_two : (a b : GenerationalBoxId) → (a ≡ b) ⊎ (a ≢ b)
one_or_two a b = grind arith

-- one place comes to refer to another part, from a part or none, or to none; each other is unchanged
pub record Moves (S R : State ℕ) (x : GenerationalBoxId) (old new : Option ℕ) : Type 0 where
  pub was : key_in S x ≡ old
  pub is : key_in R x ≡ new
  pub others : (y : GenerationalBoxId) → y ≢ x → key_in R y ≡ key_in S y

module _ {S R : State ℕ} {x : GenerationalBoxId} {old new : Option ℕ} (m : Moves S R x old new) (key : ℕ) where
  -- what each other refers to, before and after
  after : (y : GenerationalBoxId) → y ≢ x → Leads S key y → Leads R key y
  after y other is = m.others y other ∙ is

  before : (y : GenerationalBoxId) → y ≢ x → Leads R key y → Leads S key y
  before y other is = sym (m.others y other) ∙ is

  led : (y : GenerationalBoxId) → y ≡ x → Leads S key y → old ≡ Some key
  led y one is = sym m.was ∙ subst (Leads S key) one is

  leads : (y : GenerationalBoxId) → y ≡ x → Leads R key y → new ≡ Some key
  leads y one is = sym m.is ∙ subst (Leads R key) one is

  pub counted_still : (n : ℕ) → old ≢ Some key → new ≢ Some key → AreExactly n (Leads S key)
      → AreExactly n (Leads R key)
  counted_still n unled none = counted_alike n (Leads S key) (Leads R key)
      (λ y is. ⊎_elim (λ one. absurd (unled (led y one is))) (λ two. after y two is) (one_or_two y x))
      (λ y is. ⊎_elim (λ one. absurd (none (leads y one is))) (λ two. before y two is) (one_or_two y x))

  pub counted_gain : (n : ℕ) → old ≢ Some key → new ≡ Some key → AreExactly n (Leads S key)
      → AreExactly (suc n) (Leads R key)
  counted_gain n unled some = counted_more one_or_two n (Leads S key) (Leads R key) x (m.is ∙ some)
      (λ is. unled (sym m.was ∙ is))
      (λ y is. ⊎_elim (λ one. absurd (unled (led y one is))) (λ two. after y two is) (one_or_two y x)) before

  pub counted_loss : (n : ℕ) → old ≡ Some key → new ≢ Some key → AreExactly n (Leads S key)
      → AreExactly (n - 1) (Leads R key)
  counted_loss n some none k =
      let it = counted_less one_or_two n (Leads S key) x (m.was ∙ some) k in
      let less : it.0 ≡ n - 1 = omega (arith, it.1) in
      subst (λ l. AreExactly l (Leads R key)) less (counted_alike it.0 (without_one (Leads S key) x) (Leads R key)
      (λ y h. after y h.1 h.0)
      (λ y is. ⊎_elim (λ one. absurd (none (leads y one is))) (λ two. (before y two is, two)) (one_or_two y x)) it.2)

-- the parts have this under a key, and what they had under each other
pub record Rewrites {T : Type 0} (old new : List (Option (Part T))) (key : ℕ) (row : Option (Part T)) : Type 0 where
  pub at : slice_index_or new key None ≡ row
  pub others : (other : ℕ) → other ≢ key → slice_index_or new other None ≡ slice_index_or old other None

-- ==== outlines, step by step: what is read once the place was read that was the last of a list

-- what is read of a list that waits, up to a limit: its first, and then the children of that and the rest
pub record IsReading {X : Type 0} (children : X → List X) (read : ℕ → List X → List X) : Type 0 where
  pub ended : (waiting : List X) → read 0 waiting ≡ []
  pub none : (limit : ℕ) → read limit [] ≡ []
  pub first : (limit : ℕ) (p : X) (waiting : List X)
      → read (suc limit) (p ∷ waiting) ≡ p ∷ read limit (children p ++ waiting)

module _ {X : Type 0} {children : X → List X} {read : ℕ → List X → List X}
    (r : IsReading children read) where
  -- at the limit, and if nothing is pending, what was listed is all
  pub limit_read : (limit : ℕ) (places waiting : List X) {all : List X} → limit ≤ length places
      → places ++ read (limit - length places) waiting ≡ all → places ≡ all
  limit_read limit places waiting within is = grind (arith, append-nil)

  pub all_read : (limit : ℕ) (places waiting : List X) {all : List X} → length waiting ≡ 0
      → places ++ read (limit - length places) (reverse waiting) ≡ all → places ≡ all
  all_read limit places waiting none is =
      rw (nil_from_length waiting none, r.none (limit - length places), append-nil places) at is

  -- so what was read, and is to be read, is what it was
  pub read_after : (limit : ℕ) (p : X) (places more waiting rest left : List X) {all : List X}
      → length places < limit → waiting ≡ rest ++ p ∷ [] → more ≡ places ++ p ∷ []
      → left ≡ rest ++ reverse (children p)
      → places ++ read (limit - length places) (reverse waiting) ≡ all
      → more ++ read (limit - length more) (reverse left) ≡ all
  read_after limit p places more waiting rest left below waits is goes so =
      let next : limit - length places ≡ suc (limit - length (places ++ p ∷ [])) =
      omega (arith, length_push places p) in
      rw (is, goes) (simp (append_assoc, reverse-append, reverse-reverse)
      (rw (waits, reverse-append rest (p ∷ []), next, r.first _ p (reverse rest)) at so))

  -- what holds of the places that wait, and with a place of its children, holds of what is read
  all_of : (P : X → Type 0) → ((p : X) → P p → All P (children p)) → (limit : ℕ) (waiting : List X)
      → All P waiting → All P (read limit waiting)
  all_of P goes (suc limit) (p ∷ waiting) all =
      let here = All-head P p waiting all in
      rw (r.first limit p waiting) (All-cons P p _ here (all_of P goes limit (children p ++ waiting)
      (All-append P (children p) waiting (goes p here) (All-tail P p waiting all))))
  all_of P goes limit waiting all = grind arith

pub map_reverse : {X Y : Type 0} (f : X → Y) (xs : List X) → map f (reverse xs) ≡ reverse (map f xs)
map_reverse f [] = refl
map_reverse f (x ∷ xs) =
    rw (reverse-append (x ∷ []) xs, map-append f (reverse xs) (x ∷ []), map_reverse f xs)
    (sym (reverse-append (f x ∷ []) (map f xs)))

-- none waits deeper than so many places were read
pub shallow_after : (p : ℕ × Place) (places more waiting rest left : List (ℕ × Place))
    (children : List Place) → more ≡ places ++ p ∷ [] → waiting ≡ rest ++ p ∷ []
    → left ≡ rest ++ map (λ q. (p.0 + 1, q)) children
    → All (λ q. q.0 ≤ length places) waiting → All (λ q. q.0 ≤ length more) left
shallow_after p places more waiting rest left children is waits goes all =
    let both = All-pop (λ q. q.0 ≤ length places) waiting rest (Some p) waits all in
    let one : length more ≡ length places + 1 = rw is (length_push places p) in
    rw goes (All-append (λ q. q.0 ≤ length more) rest _
    (All-weaker (λ q. q.0 ≤ length places) (λ q. q.0 ≤ length more) (λ q le. omega arith) rest both.0)
    (All-map (λ q. q.0 ≤ length more) (λ q. (p.0 + 1, q)) children (λ k d lt. let le = both.1 in omega arith)))

module _ {T : Type 0} (D : DocumentState T) where
  pub reading : IsReading (children_in D) (outline_places D)
  unfolding outline_places
  reading = grind arith

  -- the children of a place with its depth, each one step deeper
  abbrev pub deeper : ℕ × Place → List (ℕ × Place)
  deeper p = map (λ q. (p.0 + 1, q)) (children_in D p.1)

  pub deep_reading : IsReading deeper (deep_outline_of D)
  unfolding deep_outline_of
  deep_reading = grind arith

  -- the places of an outline with depths are those of the outline
  pub deep_places : (limit : ℕ) (waiting : List (ℕ × Place))
      → map (λ p. p.1) (deep_outline_of D limit waiting) ≡ outline_places D limit (map (λ p. p.1) waiting)
  unfolding outline_places deep_outline_of
  deep_places (suc limit) (p ∷ waiting) = rw (deep_places limit (deeper p ++ waiting))
      (simp (map-append, map-map, map-id))
  deep_places limit waiting = refl

  -- ---- what an outline has

  pub outline_within : (limit : ℕ) (waiting : List Place) → length (outline_places D limit waiting) ≤ limit
  unfolding outline_places
  outline_within (suc limit) (p ∷ waiting) = omega (arith, outline_within limit (children_in D p ++ waiting))
  outline_within limit waiting = omega arith

  pub deep_below : (limit : ℕ) (top : Place)
      → All (λ q. IsBelowBy D q.0 top q.1) (deep_outline_of D limit ((0, top) ∷ []))
  deep_below limit top = all_of deep_reading (λ q. IsBelowBy D q.0 top q.1)
      (λ p below. All-map (λ q. IsBelowBy D q.0 top q.1) (λ q. (p.0 + 1, q)) (children_in D p.1) (λ k d lt.
      rw (add-one p.0) (p.1, below, All-contains_itself (children_in D p.1) k d lt))) limit ((0, top) ∷ [])
      (All-cons (λ q. IsBelowBy D q.0 top q.1) (0, top) [] refl (All-nil _))

  pub outline_below : (limit : ℕ) (top : Place) → All (IsBelowPlace D top) (outline_places D limit (top ∷ []))
  outline_below limit top = all_of reading (IsBelowPlace D top)
      (λ p below k d lt. (suc below.0, (p, below.1, All-contains_itself (children_in D p) k d lt))) limit (top ∷ [])
      (All-cons (IsBelowPlace D top) top [] (0, refl) (All-nil (IsBelowPlace D top)))

-- ==== a document's parts after each of its calls

-- the pointer of an id
abbrev pub at_id : GenerationalBoxId → GenerationalPointer
at_id id = record { id = id; created_at = nowhere }

-- a value that is set leaves each other box
set_others : {S R : State ℕ} → IsSound S → HasNoReferences S → (a b : GenerationalPointer) (v old : ℕ)
    → Meets S (SetValue a v) (Old old) R → a.id ≢ b.id → value_in R b ≡ value_in S b
set_others sound plain a b v old m other =
    let saw = (sets _ _ _ m).0 in
    let to = seen_reached _ _ _ saw in
    others_left _ _ m a b (seen_store _ _ sound (ap is_some saw)) (λ ne. same_value _ _ _ _ sound m _
    (λ same. ne (reach_apart _ plain _ _ to.0 to.1 (sym same))) tt) other

module _ {S R : State ℕ} (s : IsSound S) where
  pub made_moves : (v : ℕ) (l : Location) (b : GenerationalPointer) → Meets S (Make None v l) (Made b) R
      → Moves S R b.id None (Some v)
  made_moves v l b met = record {
    was = by_option (key_in S b.id) (λ none. none) (λ w is.
        let given = s.given (name_of b) (seen_cell S (at_id b.id) (ap is_some is)) in cc (given, (made_new S R _ b met).1));
    is = same_id_sees R (at_id b.id) b refl ∙ (meets_tells S R (Make None v l) (Made b) met).1;
    others = λ y other. others_left _ _ met b (at_id y) (made_new S R _ b met).0
        (same_value S R _ _ s met (at_id y) tt) (λ one. other (sym one));
  }

  ended_moves_at : (a : GenerationalPointer) (key : ℕ) → key_in S a.id ≡ Some key → Meets S (End a) Done R
      → Moves S R a.id (Some key) None
  ended_moves_at a key was met = record {
    was = was;
    is = same_id_sees R (at_id a.id) a refl ∙ unseen R a (ends a {U = Unit {0}} (Ok tt) met);
    others = λ y other. others_left _ _ met a (at_id y)
        (seen_store S a s (ap is_some (same_id_sees S a (at_id a.id) refl ∙ was)))
        (λ ne. same_value S R _ _ s met (at_id y) ne tt) (λ one. other (sym one));
  }

  pub ended_moves : (a : GenerationalPointer) (p : Place) → a.id ≡ id_in p → (key : ℕ)
      → value_in S (pointer_in p) ≡ Some key → Meets S (End a) Done R → Moves S R (id_in p) (Some key) None
  ended_moves a p own key was met = subst (λ x. Moves S R x (Some key) None) own
      (ended_moves_at a key (same_id_sees S (at_id a.id) (pointer_in p) own ∙ was) met)

  pub set_moves_at : HasNoReferences S → (a : GenerationalPointer) (v old : ℕ) → Meets S (SetValue a v) (Old old) R
      → Moves S R a.id (Some old) (Some v)
  set_moves_at plain a v old met = record {
    was = same_id_sees S (at_id a.id) a refl ∙ (sets a v old met).0;
    is = same_id_sees R (at_id a.id) a refl ∙ (sets a v old met).2 a refl;
    others = λ y other. set_others s plain a (at_id y) v old met (λ one. other (sym one));
  }

  pub set_moves : HasNoReferences S → (a : GenerationalPointer) (p : Place) → a.id ≡ id_in p → (key v old : ℕ)
      → value_in S (pointer_in p) ≡ Some key → Meets S (SetValue a v) (Old old) R
      → Moves S R (id_in p) (Some key) (Some v)
  set_moves plain a p own key v old was met =
      let it = subst (λ x. Moves S R x (Some old) (Some v)) own (set_moves_at plain a v old met) in
      record { was = was; is = it.is; others = it.others }

pub still_small : {S R : State ℕ} {x : GenerationalBoxId} {old new : Option ℕ} → Moves S R x old new
    → x.slot < 4294967295 → ((id : GenerationalBoxId) (key : ℕ) → Leads S key id → id.slot < 4294967295)
    → (id : GenerationalBoxId) (key : ℕ) → Leads R key id → id.slot < 4294967295
still_small {x = x} m small all id key is = ⊎_elim (λ one. rw one small)
    (λ two. all id key (sym (m.others id two) ∙ is)) (one_or_two id x)

-- no more places refer to a part than there are slots
pub counted_fits : {S : State ℕ} → IsSound S → IsSimple S
    → ((id : GenerationalBoxId) (key : ℕ) → Leads S key id → id.slot < 4294967295)
    → (n key : ℕ) → AreExactly n (Leads S key) → n ≤ 4294967295
counted_fits {S} s simple small n key = counted_within one_or_two (λ id. id.slot) 4294967295 n (Leads S key)
    (λ id is. small id key is) (λ x y is has at.
    let one = seen_cell S (at_id x) (ap is_some is) in
    let two = seen_cell S (at_id y) (ap is_some has) in
    one_id S (at_id x) (at_id y) s (ap is_some is) (ap is_some has)
    (simple.bounded.last (name_in x) one ∙ (ap (last_name S) at ∙ sym (simple.bounded.last (name_in y) two))))

-- two keys that may be none are the same or not
key_or_none : (x y : Option ℕ) → (x ≡ y) ⊎ (x ≢ y)
key_or_none x y = grind (arith, key_cases by_number)

-- two that are counted are more than one
pub more_than_one : (n : ℕ) (P : GenerationalBoxId → Type 0) (x y : GenerationalBoxId) → P x → P y → y ≢ x
    → AreExactly n P → 1 < n
more_than_one zero P x y is has other none = absurd (none x is)
more_than_one (suc zero) P x y is has other k = absurd (other (sym (counted_one one_or_two P x y is has k)))
more_than_one (suc (suc n)) P x y is has other k = omega arith

module _ {T : Type 0} where
  abbrev pub row_in : List (Option (Part T)) → ℕ → Option (Part T)
  row_in parts key = slice_index_or parts key None

  -- ---- what is left of a part

  pub left_some : (part : Part T) → 1 < part.places → left part ≡ Some (record part { places = part.places - 1 })
  left_some part more = grind arith

  pub left_none : (part : Part T) → part.places ≤ 1 → left part ≡ None
  left_none part few = grind arith

  left_places : (part : Part T) → places_of (left part) ≡ part.places - 1
  left_places part = ⊎_elim (λ more. ap places_of (left_some part more))
      (λ few. ap places_of (left_none part few) ∙ omega (arith, few)) (cases_lt 1 part.places)

  left_told : (sites : List Location) (part : Part T) → part.site < length sites → IsTold sites (left part)
  left_told sites part lt = ⊎_elim (λ more. subst (IsTold sites) (sym (left_some part more)) (lt, omega (arith, more)))
      (λ few. subst (IsTold sites) (sym (left_none part few)) tt) (cases_lt 1 part.places)

  told_more_sites : (sites told : List Location) → length sites ≤ length told → (row : Option (Part T))
      → IsTold sites row → IsTold told row
  told_more_sites sites told more None is = tt
  told_more_sites sites told more (Some part) lt = (omega (arith, lt.0, more), lt.1)

  pub fresh_kept : (number start next : ℕ) → IsDocumentKept {T = T} (fresh number start next) [] []
  fresh_kept number start next = record {
    simple = fresh_simple number start next;
    small = λ id key is. absurd (none-some key (sym (fresh_sees number start next (at_id id)) ∙ is));
    counted = λ key id is. none-some key (sym (fresh_sees number start next (at_id id)) ∙ is);
    told = λ key. tt;
  }

  -- a place refers to a part
  pub led_part : {S : State ℕ} {parts : List (Option (Part T))} {sites : List Location} → IsDocumentKept S parts sites
      → (id : GenerationalBoxId) (key : ℕ) → Leads S key id → (part : Part T) × (row_in parts key ≡ Some part)
  led_part {S} {parts} k id key is = by_option (row_in parts key)
      (λ none. absurd (subst (λ row. AreExactly (places_of row) (Leads S key)) none (k.counted key) id is))
      (λ part at. (part, at))

  pub unled : {S : State ℕ} {parts : List (Option (Part T))} {sites : List Location} → IsDocumentKept S parts sites
      → (key : ℕ) → row_in parts key ≡ None → (id : GenerationalBoxId) → Leads S key id → ⊥
  unled k key none id is = let to = led_part k id key is in none-some to.0 (sym none ∙ to.1)

  module _ {S R : State ℕ} {parts new : List (Option (Part T))} {sites told : List Location} (k : IsDocumentKept S parts sites)
      (more : length sites ≤ length told) where
    -- a new place comes to a part
    pub kept_made : IsSimple R → (x : GenerationalBoxId) (key : ℕ) → Moves S R x None (Some key)
        → x.slot < 4294967295 → (part : Part T) → part.places ≡ places_of (row_in parts key) + 1
        → part.site < length told → Rewrites parts new key (Some part) → IsDocumentKept R new told
    kept_made simple x key m small part places site w = record {
      simple = simple;
      small = still_small m small k.small;
      counted = λ other. ⊎_elim
          (λ one. subst (λ o. AreExactly (places_of (row_in new o)) (Leads R o)) (sym one) here)
          (λ two. subst (λ row. AreExactly (places_of row) (Leads R other)) (sym (w.others other two))
          (counted_still m other _ (λ e. none-some other e) (λ e. two (sym (same_Some key other e))) (k.counted other)))
          (key_cases by_number other key);
      told = λ other. ⊎_elim (λ one. subst (λ o. IsTold told (row_in new o)) (sym one) (subst (IsTold told) (sym w.at) (site, some)))
          (λ two. subst (IsTold told) (sym (w.others other two)) (told_more_sites sites told more _ (k.told other))) (key_cases by_number other key);
    }
      where
        some : 0 < part.places
        some = omega (arith, places)

        is : suc (places_of (row_in parts key)) ≡ places_of (row_in new key)
        is = omega (arith, places, ap places_of w.at)

        here : AreExactly (places_of (row_in new key)) (Leads R key)
        here = subst (λ n. AreExactly n (Leads R key)) is
            (counted_gain m key _ (λ e. none-some key e) refl (k.counted key))

    -- a place that led to a part is gone
    pub kept_ended : IsSimple R → (x : GenerationalBoxId) (key : ℕ) → Moves S R x (Some key) None
        → x.slot < 4294967295 → (part : Part T) → row_in parts key ≡ Some part
        → Rewrites parts new key (left part) → IsDocumentKept R new told
    kept_ended simple x key m small part had w = record {
      simple = simple;
      small = still_small m small k.small;
      counted = λ other. ⊎_elim
          (λ one. subst (λ o. AreExactly (places_of (row_in new o)) (Leads R o)) (sym one) here)
          (λ two. subst (λ row. AreExactly (places_of row) (Leads R other)) (sym (w.others other two))
          (counted_still m other _ (λ e. two (sym (same_Some key other e))) (λ e. none-some other e) (k.counted other)))
          (key_cases by_number other key);
      told = λ other. ⊎_elim (λ one. subst (λ o. IsTold told (row_in new o)) (sym one) (subst (IsTold told) (sym w.at) site))
          (λ two. subst (IsTold told) (sym (w.others other two)) (told_more_sites sites told more _ (k.told other))) (key_cases by_number other key);
    }
      where
        here : AreExactly (places_of (row_in new key)) (Leads R key)
        here = subst (λ n. AreExactly n (Leads R key))
            (ap (λ row. places_of row - 1) had ∙ (sym (left_places part) ∙ sym (ap places_of w.at)))
            (counted_loss m key _ refl (λ e. none-some key e) (k.counted key))

        site : IsTold told (left part)
        site = left_told told part (told_more_sites sites told more (Some part) (subst (IsTold sites) had (k.told key))).0

  -- a place that referred to a part refers to another
  module _ {S R : State ℕ} {parts mid new : List (Option (Part T))} {sites : List Location} (k : IsDocumentKept S parts sites) where
    pub kept_led : IsSimple R → (x : GenerationalBoxId) (old key : ℕ) → Moves S R x (Some old) (Some key)
        → old ≢ key → x.slot < 4294967295
        → (part gone : Part T) → row_in parts key ≡ Some part → row_in parts old ≡ Some gone
        → Rewrites parts mid key (Some (met part)) → Rewrites mid new old (left gone) → IsDocumentKept R new sites
    kept_led simple x old key m apart small part gone had lost w v = record {
      simple = simple;
      small = still_small m small k.small;
      counted = λ other. ⊎_elim
          (λ one. subst (λ o. AreExactly (places_of (row_in new o)) (Leads R o)) (sym one) less)
          (λ two. ⊎_elim (λ one. subst (λ o. AreExactly (places_of (row_in new o)) (Leads R o)) (sym one) more)
          (λ three. subst (λ row. AreExactly (places_of row) (Leads R other)) (sym (v.others other two ∙ w.others other three))
          (counted_still m other _ (λ e. two (sym (same_Some old other e))) (λ e. three (sym (same_Some key other e)))
          (k.counted other))) (key_cases by_number other key))
          (key_cases by_number other old);
      told = λ other. ⊎_elim
          (λ one. subst (λ o. IsTold sites (row_in new o)) (sym one) (subst (IsTold sites) (sym v.at)
          (left_told sites gone (subst (IsTold sites) lost (k.told old)).0)))
          (λ two. ⊎_elim (λ one. subst (λ o. IsTold sites (row_in new o)) (sym one)
          (subst (IsTold sites) (sym at_key) met_told))
          (λ three. subst (IsTold sites) (sym (v.others other two ∙ w.others other three)) (k.told other))
          (key_cases by_number other key))
          (key_cases by_number other old);
    }
      where
        at_key : row_in new key ≡ Some (met part)
        at_key = v.others key (λ e. apart (sym e)) ∙ w.at

        met_told : IsTold sites (Some (met part))
        met_told = let it = subst (IsTold sites) had (k.told key) in (it.0, omega (arith, it.1))

        less : AreExactly (places_of (row_in new old)) (Leads R old)
        less = subst (λ n. AreExactly n (Leads R old))
            (ap (λ row. places_of row - 1) lost ∙ (sym (left_places gone) ∙ sym (ap places_of v.at)))
            (counted_loss m old _ refl (λ e. apart (sym (same_Some key old e))) (k.counted old))

        one_more : suc (places_of (row_in parts key)) ≡ places_of (row_in new key)
        one_more = omega (arith, ap places_of had, ap places_of at_key)

        more : AreExactly (places_of (row_in new key)) (Leads R key)
        more = subst (λ n. AreExactly n (Leads R key)) one_more
            (counted_gain m key _ (λ e. apart (same_Some old key e)) refl (k.counted key))

  -- a part has changed
  pub kept_set : {S : State ℕ} {parts new : List (Option (Part T))} {sites : List Location} → IsDocumentKept S parts sites
      → (key : ℕ) (old part : Part T) → row_in parts key ≡ Some old → part.places ≡ old.places → part.site ≡ old.site
      → Rewrites parts new key (Some part) → IsDocumentKept S new sites
  kept_set {S} {parts} {new} {sites} k key old part had places site w = record {
    simple = k.simple;
    small = k.small;
    counted = λ other. ⊎_elim
        (λ one. subst (λ o. AreExactly (places_of (row_in new o)) (Leads S o)) (sym one)
        (subst (λ n. AreExactly n (Leads S key)) (ap places_of had ∙ (sym places ∙ sym (ap places_of w.at))) (k.counted key)))
        (λ two. subst (λ row. AreExactly (places_of row) (Leads S other)) (sym (w.others other two)) (k.counted other))
        (key_cases by_number other key);
    told = λ other. ⊎_elim
        (λ one. subst (λ o. IsTold sites (row_in new o)) (sym one) (subst (IsTold sites) (sym w.at)
        (subst (λ n. n < length sites) (sym site) was.0, subst (λ n. 0 < n) (sym places) was.1)))
        (λ two. subst (IsTold sites) (sym (w.others other two)) (k.told other))
        (key_cases by_number other key);
  }
    where
      was : IsTold sites (Some old)
      was = subst (IsTold sites) had (k.told key)

  -- ---- what places have

  -- a place that refers to the same part is unchanged, if that part is
  pub left_by : {D E : DocumentState T} (q : Place) → part_in E q ≡ part_in D q
      → ((key : ℕ) → part_in D q ≡ Some key → shown_of (row_in E.parts key) ≡ shown_of (row_in D.parts key))
      → Leaves D q E
  left_by {D} {E} q same here = record {
    part = same;
    shown = ap (λ o. shown_of (part_at E.parts o)) same ∙ by_option (part_in D q)
        (λ none. ap (λ o. shown_of (part_at E.parts o)) none ∙ sym (ap (λ o. shown_of (part_at D.parts o)) none))
        (λ key is. ap (λ o. shown_of (part_at E.parts o)) is
        ∙ (here key is ∙ sym (ap (λ o. shown_of (part_at D.parts o)) is)));
  }

  -- handles of one place have the same
  pub same_place_part : (D : DocumentState T) (p q : Place) → IsSame p q → part_in D q ≡ part_in D p
  same_place_part D p q same = sym (same_id_sees D.state (pointer_in p) (pointer_in q) same)

  pub same_part_shown : (D : DocumentState T) (p q : Place) → part_in D q ≡ part_in D p
      → shown_in D q ≡ shown_in D p
  same_part_shown D p q same = ap (λ o. shown_of (part_at D.parts o)) same

  -- a place has content exactly if it refers to a part
  pub live_shows : {S : State ℕ} {parts : List (Option (Part T))} {sites : List Location} → IsDocumentKept S parts sites
      → (p : Place) → is_some (shown_of (part_at parts (value_in S (pointer_in p)))) ≡ is_some (value_in S (pointer_in p))
  live_shows {S} {parts} k p = by_option (value_in S (pointer_in p))
      (λ none. ap (λ o. is_some (shown_of (part_at parts o))) none ∙ sym (ap is_some none))
      (λ key is. let to = led_part k (id_in p) key is in
      ap (λ o. is_some (shown_of (part_at parts o))) is ∙ (ap (λ row. is_some (shown_of row)) to.1 ∙ sym (ap is_some is)))

  -- a changed part's content and children
  pub set_changes : {D E : DocumentState T} (p : Place) (key : ℕ) (old part : Part T) → part_in D p ≡ Some key
      → E.state ≡ D.state → row_in D.parts key ≡ Some old → Rewrites D.parts E.parts key (Some part)
      → ChangesPart D p (shown_by part) E
  set_changes {D} {E} p key old part to state had w = record {
    here = λ q same. ap (λ o. shown_of (part_at E.parts o)) (parts q ∙ (same ∙ to)) ∙ ap shown_of w.at;
    others = λ q other. left_by q (parts q)
        (λ k is. ap shown_of (w.others k (λ one. other (is ∙ (ap Some one ∙ sym to)))));
    parts = parts;
    kept = λ q given. rw state given;
  }
    where
      parts : (q : Place) → part_in E q ≡ part_in D q
      parts q = ap (λ S. value_in S (pointer_in q)) state

  changed_twice : {D E F : DocumentState T} {p : Place} {x y : Option (Shown T)}
      → ChangesPart D p x E → ChangesPart E p y F → ChangesPart D p y F
  changed_twice {D} {E} {F} {p} first second = grind (arith, first.parts p)

  -- if a part's children were removed and put back each place is unchanged
  pub put_back : {D E F : DocumentState T} {p : Place} (list rest after : List Place)
      → ChangesPart D p (with_children (λ xs. rest) (shown_in D p)) E
      → ChangesPart E p (with_children (λ xs. after) (shown_in E p)) F → after ≡ list
      → children_shown (shown_in D p) ≡ Some list → (q : Place) → Leaves D q F
  put_back list rest after first second same old q =
      grind (arith, changed_twice, key_or_none, same_part_shown)

  -- a part's content and children, after these were filtered while they were out
  pub shows_live : {D E F : DocumentState T} {p : Place} (list rest after : List Place)
      → ChangesPart D p (with_children (λ xs. rest) (shown_in D p)) E → after ≡ live_among E list
      → ChangesPart E p (with_children (λ xs. after) (shown_in E p)) F
      → children_shown (shown_in D p) ≡ Some list
      → (q : Place) → part_in D q ≡ part_in D p
      → shown_in F q ≡ with_children (live_among D) (shown_in D p)
  shows_live {D} {E} {p = p} list rest after first left second old q same =
      let live : live_among E list ≡ live_among D list = λ i. filter (λ r. is_some (first.parts r i)) list in
      grind (arith, second.here q, first.parts q, first.parts p, first.here p refl)

  -- ---- what is left as a place moves

  abbrev pub doc : State ℕ → List (Option (Part T)) → ℕ → List Location → DocumentState T
  doc S parts next sites = record { state = S; parts = parts; next = next; sites = sites }

  module _ {S R : State ℕ} {parts new : List (Option (Part T))} {next later : ℕ} {sites told : List Location} where
    -- a place that came: each other is left
    pub made_left : {x : GenerationalBoxId} (key : ℕ) (part : Part T) → Moves S R x None (Some key)
        → Rewrites parts new key (Some part) → (q : Place) → id_in q ≢ x
        → (part_in (doc S parts next sites) q ≡ Some key → shown_by part ≡ shown_of (row_in parts key)) → Leaves (doc S parts next sites) q (doc R new later told)
    made_left key part m w q other here = left_by q (m.others (id_in q) other) (λ k is. ⊎_elim
        (λ one. subst (λ o. shown_of (row_in new o) ≡ shown_of (row_in parts o)) (sym one)
        (ap shown_of w.at ∙ here (is ∙ ap Some one)))
        (λ two. ap shown_of (w.others k two)) (key_cases by_number k key))

  -- a part that another place refers to has the same content and children
  pub led_shows : {parts mid new : List (Option (Part T))} {row : Option (Part T)} (old key : ℕ) (part : Part T)
      → row_in parts key ≡ Some part → old ≢ key → Rewrites parts mid key (Some (met part)) → Rewrites mid new old row
      → shown_of (row_in new key) ≡ shown_of (row_in parts key)
  led_shows old key part had apart w v =
      ap shown_of (v.others key (λ e. apart (sym e)) ∙ w.at) ∙ sym (ap shown_of had)

  module _ {S : State ℕ} {parts : List (Option (Part T))} {sites : List Location} (k : IsDocumentKept S parts sites)
      (p : Place) (old : ℕ) (gone : Part T) (lost : row_in parts old ≡ Some gone)
      (was : value_in S (pointer_in p) ≡ Some old) where
    counted_gone : AreExactly gone.places (Leads S old)
    counted_gone = subst (λ row. AreExactly (places_of row) (Leads S old)) lost (k.counted old)

    -- a part that loses a place has the same content and children, if another place refers to it
    left_shows : (q : Place) → IsOther p q → value_in S (pointer_in q) ≡ Some old
        → shown_of (left gone) ≡ shown_of (row_in parts old)
    left_shows q other is = ap shown_of (left_some gone
        (more_than_one gone.places (Leads S old) (id_in p) (id_in q) was is (λ one. other (sym one)) counted_gone))
        ∙ sym (ap shown_of lost)

    -- and nothing is left if none does
    pub gone_ends : (new : List (Option (Part T))) → row_in new old ≡ left gone
        → ((q : Place) → IsOther p q → value_in S (pointer_in q) ≢ value_in S (pointer_in p))
        → (key : ℕ) → value_in S (pointer_in p) ≡ Some key → row_in new key ≡ None
    gone_ends new at only key to =
        let one = counted_alone one_or_two gone.places (Leads S old) (id_in p) was
        (λ y ne is. only (at_slot y.store y.slot 0 y.generation) (λ e. ne (sym e)) (is ∙ sym was)) counted_gone in
        let few : gone.places ≤ 1 = omega (arith, one) in
        subst (λ o. row_in new o ≡ None) (same_Some old key (sym was ∙ to)) (at ∙ left_none gone few)

    module _ {R : State ℕ} {new : List (Option (Part T))} {next later : ℕ} {told : List Location} where
      pub ended_left : Moves S R (id_in p) (Some old) None → Rewrites parts new old (left gone) → (q : Place)
          → IsOther p q → Leaves (doc S parts next sites) q (doc R new later told)
      ended_left m w q other = left_by q (m.others (id_in q) (λ one. other (sym one))) (λ key is. ⊎_elim
          (λ one. subst (λ o. shown_of (row_in new o) ≡ shown_of (row_in parts o)) (sym one)
          (ap shown_of w.at ∙ left_shows q other (is ∙ ap Some one)))
          (λ two. ap shown_of (w.others key two)) (key_cases by_number key old))

      module _ (mid : List (Option (Part T))) (key : ℕ) (part : Part T) (had : row_in parts key ≡ Some part)
          (apart : old ≢ key) (w : Rewrites parts mid key (Some (met part))) (v : Rewrites mid new old (left gone)) where
        pub led_left : Moves S R (id_in p) (Some old) (Some key) → (q : Place) → IsOther p q
            → Leaves (doc S parts next sites) q (doc R new later told)
        led_left m q other = left_by q (m.others (id_in q) (λ one. other (sym one))) (λ o is. ⊎_elim
            (λ one. subst (λ n. shown_of (row_in new n) ≡ shown_of (row_in parts n)) (sym one)
            (ap shown_of v.at ∙ left_shows q other (is ∙ ap Some one)))
            (λ two. ⊎_elim
            (λ one. subst (λ n. shown_of (row_in new n) ≡ shown_of (row_in parts n)) (sym one)
            (led_shows old key part had apart w v))
            (λ three. ap shown_of (v.others o two ∙ w.others o three)) (key_cases by_number o key))
            (key_cases by_number o old))

-- a list has what it has at a key within it
pub within_list : {X : Type 0} (xs : List (Option X)) (key : ℕ) (v : X) → slice_index_or xs key None ≡ Some v
    → key < length xs
within_list [] key v is = absurd (none-some v is)
within_list (x ∷ xs) zero v is = omega arith
within_list (x ∷ xs) (suc key) v is = omega (arith, within_list xs key v is)

-- what a slab has is what its list has
pub rewritten : {T : Type 0} {old new : Slab (Part T)} {key : ℕ} {row : Option (Part T)} → Updates old new key row
    → Rewrites old.slots new.slots key row
rewritten u = record { at = u.changed; others = u.others }

-- ==== the locations of a document

pub told_length : (s : SiteState) → length (told_in s) ≡ min s.told (length s.all)
told_length s = length-take s.told s.all

pub told_longer : (s t : SiteState) (old : List Location) → s.told ≤ t.told → t.all ≡ s.all → told_in s ≡ old
    → length old ≤ length (told_in t)
told_longer s t old le same is =
    let few : length (told_in s) ≤ length (told_in t) =
    rw (told_length s, told_length t, same) (omega (arith, le)) in rw is at few

pub told_within : (s : SiteState) (site : ℕ) (l : Location) → site < s.told → slice_get s.all site ≡ Some l
    → site < length (told_in s)
told_within s site l lt is = rw (told_length s) (let within = slice_get_within s.all site l is in omega (arith, lt, within))

-- what is said of the number and the locations stays so when more are added
pub still_told : (n m : ℕ) (s t : SiteState) (old : List Location) (p : Place) (l : Location) → m ≡ n
    → s.told ≤ t.told → t.all ≡ s.all → told_in s ≡ old → told_at n old p ≡ Some l → told_at m (told_in t) p ≡ Some l
still_told n m s t old p l number le same was is =
    rw number (both (nat_eq p.store n) refl)
  where
    both : (b : Bool) → nat_eq p.store n ≡ b → (if b then slice_get (told_in t) p.site else None) ≡ Some l
    both true own = told_more s t p.site l le same (rw was (sym (ap (λ b. if b then slice_get old p.site else None) own) ∙ is))
    both false other = absurd (none-some l (sym (ap (λ b. if b then slice_get old p.site else None) other) ∙ is))

pub told_own : (n : ℕ) (sites : List Location) (p : Place) → p.store ≡ n → told_at n sites p ≡ slice_get sites p.site
told_own n sites p own = rw (own, nat_eq_equiv.refl n) refl

pub tells_here : (n : ℕ) (s : SiteState) (p : Place) (here : Location) → p.store ≡ n → p.site < s.told
    → IsAt s.all p.site here → TellsLocation (told_at n (told_in s) p) here
tells_here n s p here own lt at =
    (at.kept, rw (own, nat_eq_equiv.refl n) (told_here s p.site at.kept lt at.there), at.alike)

-- ==== a place that is made

-- its slot is one of those that were made, or the next
pub new_within : {S R : State ℕ} → IsSimple S → (v : ℕ) (l : Location) (b : GenerationalPointer)
    → Meets S (Make None v l) (Made b) R → b.id.slot ≤ slots S
new_within {S} {R} simple v l b met = slot_within S (name_of b) simple.bounded (making {S = S} {R = R} v l b met).fits

-- the move of its handle
pub handed : {S R : State ℕ} (p : Place) (b : GenerationalPointer) (key : ℕ) → id_in p ≡ b.id
    → Moves S R b.id None (Some key) → Moves S R (id_in p) None (Some key)
handed {S} {R} p b key own m = subst (λ x. Moves S R x None (Some key)) (sym own) m

-- a place that was issued before is another
pub given_apart : {S R : State ℕ} (call_key : ℕ) (l : Location) (b : GenerationalPointer) (p q : Place) → id_in p ≡ b.id
    → Meets S (Make None call_key l) (Made b) R → IsGiven S (name_of (pointer_in q)) → id_in q ≢ id_in p
given_apart {S} {R} call_key l b p q own met given one =
    let was = subst (λ i. IsGiven S (name_in i)) (one ∙ own) given in
    true≢false (sym was ∙ (made_new S R (Make None call_key l) b met).1)

module _ {T : Type 0} where
  -- the same rewriting, of a list that is the same, under a key that is the same
  pub rewritten_from : {old mid new : List (Option (Part T))} {k key : ℕ} {row : Option (Part T)} → mid ≡ old → k ≡ key
      → Rewrites mid new k row → Rewrites old new key row
  rewritten_from {old} {mid} {new} {k} {key} {row} same is w = subst (λ l. Rewrites l new key row) same
      (subst (λ n. Rewrites mid new n row) is w)

-- a list has something at a place within it
pub get_there : {X : Type 0} (xs : List X) (n : ℕ) → n < length xs → (x : X) × (slice_get xs n ≡ Some x)
get_there [] n lt = absurd (omega (arith, lt))
get_there (x ∷ xs) zero lt = (x, refl)
get_there (x ∷ xs) (suc n) lt = get_there xs n (omega (arith, lt))

-- each passes, if no fewer pass than there are
pub all_of_count : {X : Type 0} (p : X → Bool) (xs : List X) → length xs ≤ count_by p xs → list_all p xs ≡ true
all_of_count p [] le = refl
all_of_count p (x ∷ xs) le = by (p x) (sum_by-cons (λ y. cond (p y) 1 0) x xs) (all_of_count p xs)
  where
    by : (b : Bool) → count_by p (x ∷ xs) ≡ cond b 1 0 + count_by p xs
        → (length xs ≤ count_by p xs → list_all p xs ≡ true) → (b && list_all p xs) ≡ true
    by true more rest = rest (omega (arith, le, more))
    by false same rest = let few = count_by-le-length p xs in absurd (omega (arith, le, same, few))
