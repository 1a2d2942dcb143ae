-- Forests, how often a slot is in a list, and the stores below them.
pub mod Common
use Rattle.std.specs.FinMap as map
unfoldable pub use Common.*

-- ==== how many nodes of a list live at a slot

-- something holds of each item of a list
abbrev pub Each : {X : Type 0} → (X → Type 0) → List X → Type 0
Each {X} P xs = (i : ℕ) (x : X) → slice_get xs i ≡ Some x → P x

module _ {T : Type 0} where
  -- with another node before the others
  pub count_here : (s : ℕ) (c : Node T) (xs : List (Node T)) → slot_in c ≡ s
      → count_at s (c ∷ xs) ≡ count_at s xs + 1
  count_here s c xs is = grind (arith, sum_by-cons (λ n. cond (nat_eq (slot_in n) s) 1 0) c xs)

  pub count_apart : (s : ℕ) (c : Node T) (xs : List (Node T)) → slot_in c ≢ s
      → count_at s (c ∷ xs) ≡ count_at s xs
  count_apart s c xs ne = grind arith

  pub count_more : (s : ℕ) (c : Node T) (xs : List (Node T)) → count_at s xs ≤ count_at s (c ∷ xs)
  count_more s c xs = search (arith, sum_by-cons)

  -- with others at the end
  pub count_both : (s : ℕ) (xs ys : List (Node T))
      → count_at s (xs ++ ys) ≡ count_at s xs + count_at s ys
  count_both s xs ys = sum_by-append (λ n. cond (nat_eq (slot_in n) s) 1 0) xs ys

  pub count_parts : (s : ℕ) (xs ms ys : List (Node T))
      → count_at s (xs ++ (ms ++ ys)) ≡ count_at s xs + (count_at s ms + count_at s ys)
  count_parts s xs ms ys = grind (arith, count_both s xs (ms ++ ys), count_both s ms ys)

  count_inserted : (s : ℕ) (xs : List (Node T)) (i : ℕ) (c : Node T)
      → count_at s (insert xs i c) ≡ count_at s (c ∷ xs)
  count_inserted s xs i c = search (arith, sum_by-cons, sum_by-take-drop, count_both)

  -- with another node at a spot, it is counted as with one before the others
  pub count_placed : (s : ℕ) (at : Spot T) (xs : List (Node T)) (c : Node T)
      → count_at s (placed at c xs) ≡ count_at s (c ∷ xs)
  count_placed s at xs c =
      grind (arith, count_inserted s xs, count_both s xs (c ∷ []), count_both s (c ∷ []) xs)

  -- what holds of the node and of each of the others holds of each in such a list
  inserted_each : (P : Node T → Type 0) (xs : List (Node T)) (i : ℕ) (c : Node T) → P c → Each P xs
      → Each P (insert xs i c)
  inserted_each P xs zero c here each k x at = grind arith
  inserted_each P [] (suc i) c here each k x at = grind arith
  inserted_each P (y ∷ xs) (suc i) c here each zero x at = each 0 x at
  inserted_each P (y ∷ xs) (suc i) c here each (suc k) x at =
      inserted_each P xs i c here (λ j. each (suc j)) k x at

  pub placed_each : (P : Node T → Type 0) (at : Spot T) (xs : List (Node T)) (c : Node T) → P c
      → Each P xs → Each P (placed at c xs)
  placed_each P to xs c here each k x at = grind (arith, inserted_each P, get_pushed)

  pub count_take : (s : ℕ) (xs : List (Node T)) (n : ℕ) → count_at s (take n xs) ≤ count_at s xs
  count_take s xs n = sum_by-take-le (λ m. cond (nat_eq (slot_in m) s) 1 0) xs n

  -- what is counted is there, and what is there is counted
  pub counted : (s : ℕ) (xs : List (Node T)) → 0 < count_at s xs
      → (k : ℕ) × (x : Node T) × (slice_get xs k ≡ Some x) × (slot_in x ≡ s)
  counted s [] lt = absurd (omega (arith, lt))
  counted s (x ∷ xs) lt = ⊎_elim (λ yes. (0, x, refl, yes.1))
      (λ no. let rest = counted s xs (subst (λ n. 0 < n) (count_apart s x xs no.1) lt) in
      (suc rest.0, rest.1, rest.2, rest.3)) (eqb_tells (slot_in x) s)

  pub counts : (s : ℕ) (xs : List (Node T)) (k : ℕ) (x : Node T) → slice_get xs k ≡ Some x
      → slot_in x ≡ s → 0 < count_at s xs
  counts s [] k x at is = absurd (none-some x at)
  counts s (y ∷ ys) zero x at is = grind (arith, count_here s y ys (ap slot_in (same_Some y x at) ∙ is))
  counts s (y ∷ ys) (suc k) x at is = grind (arith, counts s ys k x at is, count_more s y ys)

  -- each once
  pub distinct : (xs : List (Node T)) → ((s : ℕ) → count_at s xs ≤ 1)
      → IsDistinct nat_eq (map slot_in xs)
  unfolding IsDistinct
  distinct [] once = tt
  distinct (x ∷ xs) once =
      (apart xs none, distinct xs (λ s. let le = once s in let more = count_more s x xs in omega (arith, le, more)))
    where
      none : count_at (slot_in x) xs ≡ 0
      none = grind (arith, count_here (slot_in x) x xs refl)

      apart : (ys : List (Node T)) → count_at (slot_in x) ys ≡ 0
          → AllByRecursion (λ s. nat_eq (slot_in x) s ≡ false) (map slot_in ys)
      apart [] e = tt
      apart (y ∷ ys) e =
          let more = count_more (slot_in x) y ys in
          grind (arith, apart ys, eqb_tells (slot_in x) (slot_in y), count_here (slot_in x) y ys)

  -- ---- a list without a node

  -- handles of one node have one slot
  pub same_slot : (a b : Node T) → is_same a b ≡ true → slot_in a ≡ slot_in b
  same_slot a b same = eqb-true (slot_in a) (slot_in b) (and_parts _ _ (and_parts _ _ same).1).0

  pub is_id : (a b : Node T) → is_same a b ≡ true → IsSame a b
  is_id a b same = grind arith

  pub same_id : (a b : Node T) → IsSame a b → is_same a b ≡ true
  same_id a b same = grind arith

  -- how many times a node is in a list, with another before the others
  pub times_more : (n x : Node T) (xs : List (Node T)) → is_same x n ≡ true
      → times n (x ∷ xs) ≡ times n xs + 1
  times_more n x xs same = grind (arith, sum_by-cons (λ c. cond (is_same c n) 1 0) x xs)

  pub times_apart : (n x : Node T) (xs : List (Node T)) → is_same x n ≡ false
      → times n (x ∷ xs) ≡ times n xs
  times_apart n x xs other = grind arith

  pub times_both : (n : Node T) (xs ys : List (Node T))
      → times n (xs ++ ys) ≡ times n xs + times n ys
  times_both n xs ys = sum_by-append (λ c. cond (is_same c n) 1 0) xs ys

  -- if handles in a list are of a node exactly if they are at its slot, it is counted so
  pub times_at : (n : Node T) (xs : List (Node T))
      → ((k : ℕ) (x : Node T) → slice_get xs k ≡ Some x → slot_in x ≡ slot_in n → is_same x n ≡ true)
      → times n xs ≡ count_at (slot_in n) xs
  times_at n [] alike = refl
  times_at n (x ∷ xs) alike =
      let rest = times_at n xs (λ k. alike (suc k)) in
      let here = count_here (slot_in n) x xs in
      grind (arith, times_more n x xs, times_apart n x xs, count_apart, same_slot, alike 0 x refl)

  -- and not at all if none is of it
  pub times_none : (n : Node T) (xs : List (Node T))
      → ((k : ℕ) (x : Node T) → slice_get xs k ≡ Some x → is_same x n ≡ false) → times n xs ≡ 0
  times_none n [] none = grind arith
  times_none n (x ∷ xs) none = grind (arith, times_none n xs (λ k. none (suc k)), times_apart n x xs (none 0 x refl))

  pub count_without : (s : ℕ) (n : Node T) → s ≢ slot_in n → (xs : List (Node T))
      → count_at s (without n xs) ≡ count_at s xs
  count_without s n ne [] = grind arith
  count_without s n ne (x ∷ xs) =
      grind (arith, count_without s n ne xs, count_here s x xs, count_here s x (without n xs), count_apart, same_slot x n)

  -- a list without a node that isn't there is the list
  pub same_without : (n : Node T) (xs : List (Node T)) → count_at (slot_in n) xs ≡ 0
      → without n xs ≡ xs
  same_without n [] none = grind arith
  same_without n (x ∷ xs) none = grind (arith, same_without n xs, count_here (slot_in n) x xs, same_slot x n)

  pub none_without : (s : ℕ) (n : Node T) → s ≡ slot_in n → (xs : List (Node T))
      → ((k : ℕ) (x : Node T) → slice_get xs k ≡ Some x → slot_in x ≡ slot_in n → is_same x n ≡ true)
      → count_at s (without n xs) ≡ 0
  none_without s n at [] alike = refl
  none_without s n at (x ∷ xs) alike =
      let rest = none_without s n at xs (λ k. alike (suc k)) in
      grind (arith, count_apart s x (without n xs), alike 0 x refl, cases_Bool (is_same x n))

  -- another node of a list, which is read elsewhere, is unchanged
  pub clear_more : (old here new : List (Family T)) (nodes items : List (Node T)) (i slot : ℕ)
      (d : Node T) → items ≡ nodes → i < length items → slot ≡ slot_in (get_or items i d)
      → IsCleared old here (take i nodes) → family_at new slot ≡ alone
      → ((s : ℕ) → s ≢ slot → family_at new s ≡ family_at here s)
      → IsCleared old new (take (i + 1) nodes)
  clear_more old here new nodes items i slot d same lt is c cleared others = record {
    cleared = λ s some. grind (arith, next s, c.cleared s, others s, cases_eq s slot);
    others = λ s none. grind (arith, next s, c.others s, others s, cases_eq s slot);
  }
    where
      next : (s : ℕ) → count_at s (take (i + 1) nodes)
          ≡ count_at s (take i nodes) + cond (nat_eq slot s) 1 0
      next s = let both = count_both s (take i nodes) (get_or nodes i d ∷ []) in
          grind (arith, take_more nodes i d)

-- ==== forests: the ways from parent to parent, and what a change leaves of them

module _ {T : Type 0} (fs : List (Family T)) where
  -- there is one way to a root
  pub rooted_once : (d e s : ℕ) → IsRooted fs d s → IsRooted fs e s → d ≡ e
  rooted_once zero zero s a b = refl
  rooted_once (suc d) (suc e) s a b = grind (arith, rooted_once d e a.0 a.2)
  rooted_once d e s a b = grind arith

  -- a slot is as far from a root as what it is under, and so many steps more
  pub rooted_under : (top d e s : ℕ) → IsUnder fs top e s → IsRooted fs d top
      → (n : ℕ) × (n ≡ e + d) × IsRooted fs n s
  rooted_under top d zero s is r = (d, omega arith, subst (IsRooted fs d) (sym is) r)
  rooted_under top d (suc e) s under r =
      let far = rooted_under top d e under.0 under.2 r in
      let more = far.1 in (suc far.0, omega (arith, more), (under.0, under.1, far.2))

  -- so nothing is under a slot that stands above it
  pub no_cycle : (d s up e : ℕ) → IsRooted fs d s → above fs s ≡ Some up → IsUnder fs s e up → ⊥
  no_cycle d s up e r is under = grind (arith, rooted_under s d e up under r, rooted_once)

  -- another step below
  pub step_under : (top e s up : ℕ) → above fs s ≡ Some up → IsUnder fs top e up
      → IsUnder fs top (suc e) s
  step_under top e s up is under = (up, is, under)

  -- the same at slots that are read elsewhere
  pub under_at : {top s from to : ℕ} (e : ℕ) → top ≡ from → s ≡ to → IsUnder fs top e s
      → IsUnder fs from e to
  under_at {s = s} {from = from} e is at under = grind arith

  -- one step up
  pub rooted_up : (steps s up : ℕ) → above fs s ≡ Some up → IsRooted fs steps s
      → (less : ℕ) × (less + 1 ≡ steps) × IsRooted fs less up
  rooted_up steps s up is r = grind arith

  pub under_up : (top steps s up : ℕ) → above fs s ≡ Some up → s ≢ top → IsUnder fs top steps s
      → (less : ℕ) × IsUnder fs top less up
  under_up top steps s up is other under = grind arith

  -- a root is under itself alone
  pub root_under : (top steps s : ℕ) → above fs s ≡ None → IsUnder fs top steps s → s ≡ top
  root_under top steps s root under = grind arith

pub slot_cases : (o : Option ℕ) (up : ℕ) → (o ≡ Some up) ⊎ (o ≢ Some up)
slot_cases o up = grind arith

module _ {T : Type 0} (fs : List (Family T)) where
  -- a slot below another has a parent there
  pub above_parent : (s up : ℕ) → above fs s ≡ Some up
      → (p : Node T) × (parent_at fs s ≡ Some p) × (slot_in p ≡ up)
  above_parent s up is = grind arith

  -- a slot past the others is alone
  pub past : (s : ℕ) → length fs ≤ s → family_at fs s ≡ alone
  past s le = get_or-eq_default fs alone le

  pub slot_within : (s up : ℕ) → above fs s ≡ Some up → s < length fs
  slot_within s up is = grind (arith, past, cases_lt s (length fs))

  module _ (f : IsForest fs) where
    -- a child has its slot's node as its parent
    pub parent_is : (s k : ℕ) (c : Node T) → slice_get (children_at fs s) k ≡ Some c
        → above fs (slot_in c) ≡ Some s
    parent_is s k c at =
        grind (arith, counts (slot_in c) (children_at fs s) k c at, f.only (slot_in c) s, slot_cases (above fs (slot_in c)) s)

    -- nothing but itself is under a slot that is alone
    pub under_alone : (top e s : ℕ) → family_at fs top ≡ alone → IsUnder fs top e s → s ≡ top
    under_alone top zero s none under = under
    under_alone top (suc e) s none under = grind (arith, under_alone top e under.0 none under.2)

    -- ---- no way is longer than there are slots

    pub above_within : (s up : ℕ) → above fs s ≡ Some up → up < length fs
    above_within s up is = grind (arith, past up, f.once s up is, cases_lt up (length fs))

    -- of the first slots how many steps a root is above each
    depths : ℕ → List ℕ
    depths zero = []
    depths (suc k) = (f.rooted k).0 ∷ depths k

    depths_length : (k : ℕ) → length (depths k) ≡ k
    unfolding depths
    depths_length zero = refl
    depths_length (suc k) = grind (arith, depths_length k)

    depths_has : (k s d : ℕ) → s < k → IsRooted fs d s → list_any (nat_eq d) (depths k) ≡ true
    unfolding depths
    depths_has zero s d lt r = absurd (omega arith)
    depths_has (suc k) s d lt r = ⊎_elim (λ less. or_right _ _ (depths_has k s d less r))
        (λ le. or_left _ _ (eq-eqb d (f.rooted k).0 (rooted_once fs d (f.rooted k).0 k
        (subst (IsRooted fs d) {x = s} (omega (arith, lt, le)) r) (f.rooted k).1))) (cases_lt s k)

    -- each number of steps below one is that of a slot
    steps_of : (d s q : ℕ) → IsRooted fs d s → s < length fs → q ≤ d
        → (i : ℕ) × (i < length fs) × IsRooted fs q i
    steps_of zero s q r lt le = let is : 0 ≡ q = omega (arith, le) in
        (s, lt, subst (λ e. IsRooted fs e s) is r)
    steps_of (suc d) s q r lt le = ⊎_elim
        (λ less. steps_of d r.0 q r.2 (above_within s r.0 r.1) (omega (arith, less)))
        (λ more. let is : suc d ≡ q = omega (arith, le, more) in
        (s, lt, subst (λ e. IsRooted fs e s) is r))
        (cases_lt q (suc d))

    pub depth_within : (d s : ℕ) → IsRooted fs d s → s < length fs → d < length fs
    depth_within d s r lt =
        let long = le-length_from_below (depths (length fs)) (suc d) (λ q le.
        let at = steps_of d s q r lt (omega (arith, le)) in depths_has (length fs) at.0 q at.1 at.2)
        in
        let same = depths_length (length fs) in omega (arith, long, same)

module _ {T : Type 0} (fs gs : List (Family T)) where
  -- if each slot has the same parent, or a way to a root, each has a way
  ways : ((s : ℕ) → (above gs s ≡ above fs s) ⊎ ((e : ℕ) × IsRooted gs e s)) → (d s : ℕ)
      → IsRooted fs d s → (e : ℕ) × IsRooted gs e s
  ways new zero s r = ⊎_elim (λ same. (0, same ∙ r)) (λ way. way) (new s)
  ways new (suc d) s r =
      ⊎_elim (λ same. let up = ways new d r.0 r.2 in (suc up.0, (r.0, same ∙ r.1, up.1)))
      (λ way. way) (new s)

  -- ---- the same families

  pub same_forest : IsForest fs → ((s : ℕ) → family_at gs s ≡ family_at fs s) → IsForest gs
  same_forest f same = record {
    once = λ s up is. grind arith;
    only = λ s other ne. grind arith;
    rooted = λ s. let r = f.rooted s in
        ways (λ i. inl (ap (λ x. slot_of x.parent) (same i))) r.0 s r.1;
  }

  -- ---- a node that was made a child of another

  module _ (f : IsForest fs) (parent child : Node T) (spot : Spot T) (root : above fs (slot_in child) ≡ None)
      (apart : (e : ℕ) → IsUnder fs (slot_in child) e (slot_in parent) → ⊥)
      (new : IsAttached fs parent spot child gs) where
    same_above : (s : ℕ) → s ≢ slot_in child → above gs s ≡ above fs s
    same_above s ne = ap slot_of (new.parents s ne)

    -- ways that don't meet the child are what they were
    far : (d s : ℕ) → ((e : ℕ) → IsUnder fs (slot_in child) e s → ⊥) → IsRooted fs d s → IsRooted gs d s
    far zero s off r = same_above s (λ is. off 0 is) ∙ r
    far (suc d) s off r =
        grind (arith, far d r.0 (λ e under. off (suc e) (step_under fs (slot_in child) e s r.0 r.1 under)) r.2, same_above)

    at_child : (s : ℕ) → s ≡ slot_in child → (e : ℕ) × IsRooted gs e s
    at_child s is = let up = f.rooted (slot_in parent) in
        (suc up.0, (slot_in parent, grind (arith, new.here), far up.0 (slot_in parent) apart up.1))

    -- how often a node is in a list
    more : (s : ℕ) → count_at s (children_at gs (slot_in parent))
        ≡ count_at s (child ∷ children_at fs (slot_in parent))
    more s = ap (count_at s) new.listed ∙ count_placed s spot (children_at fs (slot_in parent)) child

    kept : (s up : ℕ) → s ≢ slot_in child → count_at s (children_at gs up) ≡ count_at s (children_at fs up)
    kept s up ne = grind (arith, more s, count_apart, cases_eq up (slot_in parent))

    none : (s up : ℕ) → s ≡ slot_in child → count_at s (children_at fs up) ≡ 0
    none s up is = grind (arith, f.only s up)

    pub attached : IsForest gs
    attached = record {
      once = λ s up is.
          let here = count_here s child (children_at fs (slot_in parent)) in
          grind (arith, none s, more s, kept s up, cases_eq s (slot_in child));
      only = λ s other ne. grind (arith, none s other, kept s other, cases_eq s (slot_in child));
      rooted = λ s. let r = f.rooted s in ways (λ i. ⊎_elim (λ is. inr (at_child i is))
          (λ ne. inl (same_above i ne)) (cases_eq i (slot_in child))) r.0 s r.1;
    }

  -- ---- a node that was taken out of its parent's children

  module _ (f : IsForest fs) (child : Node T)
      (alike : (s k : ℕ) (x : Node T) → slice_get (children_at fs s) k ≡ Some x
      → slot_in x ≡ slot_in child → is_same x child ≡ true)
      (new : IsDetached fs child gs) where
    left_above : (s : ℕ) → s ≢ slot_in child → above gs s ≡ above fs s
    left_above s ne = ap slot_of (new.parents s ne)

    left : (s up : ℕ) → s ≢ slot_in child → count_at s (children_at gs up) ≡ count_at s (children_at fs up)
    left s up ne = grind (arith, count_without s child ne (children_at fs up), slot_cases (above fs (slot_in child)) up)

    gone : (s up : ℕ) → s ≡ slot_in child → count_at s (children_at gs up) ≡ 0
    gone s up at = grind (arith, none_without, alike, slot_cases)

    pub detached : IsForest gs
    detached = record {
      once = λ s up is. grind (arith, left s up, cases_eq s (slot_in child));
      only = λ s other ne. grind (arith, gone s other, left s other, cases_eq s (slot_in child));
      rooted = λ s. let r = f.rooted s in ways (λ i. ⊎_elim
          (λ is. inr (0, ap (above gs) is ∙ ap slot_of new.here)) (λ ne. inl (left_above i ne))
          (cases_eq i (slot_in child))) r.0 s r.1;
    }

  -- ---- nodes that were left alone, with all that are below them and none above

  module _ (f : IsForest fs) (list : List (Node T)) (c : IsCleared fs gs list)
      (down : (s up : ℕ) → above fs s ≡ Some up → 0 < count_at up list → 0 < count_at s list)
      (upward : (s up : ℕ) → above fs s ≡ Some up → 0 < count_at s list → 0 < count_at up list) where
    pub cleared : IsForest gs
    cleared = record {
      once = λ s up is. let out = cases_lt 0 (count_at s list) in
          grind (arith, c.cleared s, c.others s, c.cleared up, c.others up, down s up);
      only = λ s other ne. let out = cases_lt 0 (count_at s list) in
          let off = cases_lt 0 (count_at other list) in let old = f.only s other in
          grind (arith, c.cleared other, c.others other, upward s other, c.others s);
      rooted = λ s. let r = f.rooted s in ways (λ i. ⊎_elim
          (λ lt. inr (0, grind (arith, c.cleared i lt))) (λ le. inl (grind (arith, c.others i)))
          (cases_lt 0 (count_at i list))) r.0 s r.1;
    }

-- ==== lists of a node and the nodes below it, level by level

-- nodes at different slots are no more than there are slots
pub short : {T : Type 0} (list : List (Node T)) (n : ℕ) → ((s : ℕ) → count_at s list ≤ 1)
    → ((s : ℕ) → 0 < count_at s list → s < n) → length list ≤ n
short {T} list n once within =
    let few = length-le_from_distinct_below (map slot_in list) n (distinct list once)
    (λ q any. within q (found q list any)) in
    let len = length-map list slot_in in omega (arith, few, len)
  where
    found : (q : ℕ) (xs : List (Node T)) → list_any (nat_eq q) (map slot_in xs) ≡ true
        → 0 < count_at q xs
    found q [] any = absurd (true≢false (sym any))
    found q (x ∷ xs) any =
        grind (arith, count_here q x xs, count_more q x xs, found q xs, eqb-true q (slot_in x))

module _ {T : Type 0} (fs : List (Family T)) where
  abbrev pub all_children : List (Node T) → List (Node T)
  all_children list = flat_map (λ n. children_at fs (slot_in n)) list

  module _ (top : Node T) where
    -- the children of the first nodes of a list are listed_under
    pub record IsPart (list : List (Node T)) (next : ℕ) : Type 0 where
      pub within : next ≤ length list
      pub level : list ≡ top ∷ all_children (take next list)

    abbrev pub IsUnderTop : ℕ → Type 0
    IsUnderTop s = (e : ℕ) × IsUnder fs (slot_in top) e s

  module _ (f : IsForest fs) where
    -- how many children of the nodes of a list live at a slot
    pub children_none : (s : ℕ) → above fs s ≡ None → (list : List (Node T))
        → count_at s (all_children list) ≡ 0
    children_none s root [] = grind arith
    children_none s root (n ∷ list) =
        grind (arith, children_none s root list, count_both s (children_at fs (slot_in n)) (all_children list))

    pub children_some : (s up : ℕ) → above fs s ≡ Some up → (list : List (Node T))
        → count_at s (all_children list) ≡ count_at up list
    children_some s up is [] = grind arith
    children_some s up is (n ∷ list) =
        let both = count_both s (children_at fs (slot_in n)) (all_children list) in
        grind (arith, children_some s up is list, count_here up n list, count_apart up n list, cases_eq (slot_in n) up)

    module _ (top : Node T) where
      pub part_more : (list more : List (Node T)) (next : ℕ) (n d : Node T) → IsPart top list next
          → next < length list → n ≡ get_or list next d
          → more ≡ list ++ children_at fs (slot_in n) → IsPart top more (next + 1)
      part_more list more next n d p lt is after =
          let flat = flat_map_more (λ m. children_at fs (slot_in m)) (top ∷ []) (take next list) n in
          grind (arith, length-append, take-append-le, take_more)

      module _ (list : List (Node T)) (next : ℕ) (p : IsPart top list next) where
        whole : (s : ℕ) → count_at s list ≡ count_at s (top ∷ all_children (take next list))
        whole s = ap (count_at s) p.level

        -- a slot above the first node's isn't there, if what is there is below
        unlisted : (d s : ℕ) (r : IsRooted fs (suc d) s) → slot_in top ≡ s
            → (0 < count_at r.0 list → IsUnderTop top r.0) → count_at r.0 list ≤ 0
        unlisted d s r here below = grind (arith, no_cycle fs (suc d) s r.0, cases_lt 0 (count_at r.0 list))

        -- each is there once, and is below
        listed_under : (d s : ℕ) → IsRooted fs d s
            → (count_at s list ≤ 1) × (0 < count_at s list → IsUnderTop top s)
        listed_under zero s r =
            let none = children_none s r (take next list) in
            let here = count_here s top (all_children (take next list)) in
            grind (arith, whole s, count_apart s top (all_children (take next list)))
        listed_under (suc d) s r =
            let some = children_some s r.0 r.1 (take next list) in
            let part = count_take r.0 list next in
            let above = listed_under d r.0 r.2 in
            let here = count_here s top (all_children (take next list)) in
            let apart = count_apart s top (all_children (take next list)) in (
              grind (arith, whole s, unlisted d s r),
              λ lt. ⊎_elim (λ at. (0, sym at))
                  (λ ne. let up = above.1 (let same = apart ne in let all = whole s in
                  omega (arith, lt, all, some, part, same)) in (suc up.0, (r.0, r.1, up.1)))
                  (cases_eq (slot_in top) s),
            )

        pub listed_once : (s : ℕ) → count_at s list ≤ 1
        listed_once s = let r = f.rooted s in (listed_under r.0 s r.1).0

        pub listed_below : (s : ℕ) → 0 < count_at s list → IsUnderTop top s
        listed_below s = let r = f.rooted s in (listed_under r.0 s r.1).1

        pub below_within : slot_in top < length fs → (s : ℕ) → IsUnderTop top s → s < length fs
        below_within lt s under = grind (arith, slot_within)

        -- so they are no more than there are slots
        pub list_short : slot_in top < length fs → length list ≤ length fs
        list_short lt = short list (length fs) listed_once (λ s some. below_within lt s (listed_below s some))

      -- if the children of all are listed_under, all that are below are
      pub all_listed : (list : List (Node T)) → IsInLevels fs top list → (e s : ℕ)
          → IsUnder fs (slot_in top) e s → 0 < count_at s list
      all_listed list level zero s is = grind (arith, count_here s top (all_children list) (sym is))
      all_listed list level (suc e) s under =
          grind (arith, all_listed list level e under.0 under.2, children_some, count_more s top (all_children list))

      -- and then the list is whole
      pub part_whole : (list : List (Node T)) → IsInLevels fs top list → IsPart top list (length list)
      part_whole list level = grind (arith, take_all)

-- a root is fewer steps above a slot than there are links
pub rooted_within : {T : Type 0} (links : List (Link T)) → IsForest (families links) → (s : ℕ) → s < length links
    → (n : ℕ) × (0 + n < length links) × IsRooted (families links) n s
rooted_within links f s lt =
    let r = f.rooted s in
    (r.0, grind (arith, length-map, depth_within (families links) f r.0 s r.1), r.1)

-- links of one length have families of one
pub same_length : {T : Type 0} (xs ys : List (Link T)) → length xs ≡ length ys
    → length (families xs) ≡ length (families ys)
same_length xs ys same = length-map xs (family_in xs) ∙ (same ∙ sym (length-map ys (family_in ys)))

-- ==== a tree's store: its live nodes and its slots, and these after nodes are removed

module _ {T : Type 0} where
  -- handles of one node have the same value
  pub same_shown : (S : State T) (a b : Node T) → IsSame a b
      → value_in S (pointer_in a) ≡ value_in S (pointer_in b)
  unfolding value_in reach
  same_shown S a b same = grind arith

  -- a live node has a live cell
  live_cell : (S : State T) (n : Node T) → IsLiveIn S n
      → is_some (map.get S.cells (name_of (pointer_in n))) ≡ true
  live_cell S n live = seen_cell S (pointer_in n) live

  -- its slot is one of the store's, and no other live node has it
  pub live_within : (S : State T) (n : Node T) → IsSound S → IsSimple S → IsLiveIn S n
      → slot_in n < slots S
  live_within S n s k live =
      k.bounded.dense (slot_in n)
      (grind (arith, slot_made S, s.given (name_of (pointer_in n)), live_cell S n live))

  pub one_live : (S : State T) (a b : Node T) → IsSound S → IsSimple S → IsLiveIn S a
      → IsLiveIn S b → slot_in a ≡ slot_in b → IsSame a b
  one_live S a b s k live lives same =
      grind (arith, seen_store, seen_store S (pointer_in b) s lives, live_cell S a live, live_cell S b lives)

  -- ---- a making

  module _ {S R : State T} (s : IsSound S) (k : IsSimple S) (v : T) (l : Location) (b : GenerationalPointer)
      (m : Meets S (Make None v l) (Made b) R) where
    -- the new node's slot is one of the store's, or the next
    pub made_slots : ((b.id.slot < slots S) × (slots R ≡ slots S))
        ⊎ ((b.id.slot ≡ slots S) × (slots R ≡ slots S + 1))
    made_slots = grind (arith, making {S = S} {R = R} v l b m, k.bounded.dense b.id.slot, grown)
      where
        grown : slots R ≡ cond (map.contains_key (slots_of S) b.id.slot) (slots S) (slots S + 1)
        grown = ap slots (making {S = S} {R = R} v l b m).after ∙ (ap map.len (lasts_insert S.given (name_of b))
            ∙ map.len-insert nat_cmp_total (slots_of S) b.id.slot _)

    -- and there is one live node more
    pub made_count : map.len R.cells ≡ map.len S.cells + 1
    made_count =
        let new = (made_new S R (Make None v l) b m).1 in
        ap (λ (X : State T). map.len X.cells) (making {S = S} {R = R} v l b m).after
        ∙ (map.len-insert name_total S.cells (name_of b) _
        ∙ grind (arith, s.given (name_of b), new))

    pub made_beside : (n : Node T) → IsLiveIn S n → slot_in n ≢ b.id.slot
    made_beside n live = grind (arith, slot_apart, making {S = S} {R = R} v l b m, live_cell S n live)

  -- ---- a call that makes nothing

  pub same_slots : {S R : State T} (call : Action T) (answer : Answer T) → is_making call ≡ false
      → Meets S call answer R → slots R ≡ slots S
  same_slots {S} {R} call answer other m = grind (arith, act_start, meets_cases S R call answer m)

  -- ---- another value

  len_change : (cells : NameMap (Cell T)) (n : Name) (f : Cell T → Cell T)
      → map.len (change cells n f) ≡ map.len cells
  unfolding change
  len_change cells n f = grind (arith, map.len-insert name_total cells n)

  pub set_count : {S R : State T} (b : GenerationalPointer) (v old : T)
      → Meets S (SetValue b v) (Old old) R → map.len R.cells ≡ map.len S.cells
  set_count {S} {R} b v old m = grind (arith, true≢false, meets_cases, len_change)

  -- ---- a node that is removed

  -- the cell of what is seen has a value, and is no reference
  value_cell : (S : State T) (b : GenerationalPointer) → IsSimple S → is_some (value_in S b) ≡ true
      → (c : Content T) × (l : Location) × (map.get S.cells (name_of b) ≡ Some (Value c l))
  value_cell S b k seen = grind (arith, some_live, seen_reached, reaches)

  -- there is one live node less then
  pub ended_count : {S R : State T} → IsSound S → IsSimple S → (b : GenerationalPointer)
      → is_some (value_in S b) ≡ true → Meets S (End b) Done R → map.len R.cells + 1 ≡ map.len S.cells
  ended_count {S} {R} s k b seen m =
      let none = map.get-empty {X = Cell T} name_cmp name in
      let some = seen_cell S b seen in
      grind (arith, less, map.empty_of_len S.cells, cases_lt 0 (map.len S.cells))
    where
      name : Name
      name = name_of b

      left : R ≡ close S (own_name S b)
      left = grind arith

      cells : R.cells ≡ map.remove S.cells name
      cells = let cell = value_cell S b k seen in
          let own = seen_store S b s seen in
          let way = Some (Value cell.0 cell.1) in
          grind (arith, left, close_one S.cells name (sound_linked S s) way)

      less : map.len R.cells ≡ map.len S.cells - 1
      less = grind (arith, cells, map.len-remove name_total S.cells name, seen_cell S b seen)

module _ {T : Type 0} where
  -- of one node, by a box of its id
  pub lost_one : {S R : State T} → IsSound S → IsSimple S → (a : Node T) (b : GenerationalPointer) → b.id ≡ id_in a
      → IsLiveIn S a → Meets S (End b) Done R → HasLostNodes S (a ∷ []) R
  lost_one {S} {R} s k a b own live m = record {
    simple = simple_still s k (End b) Done m tt tt;
    same = same_slots (End b) Done refl m;
    number = meets_number S R (End b) Done m;
    count = ended_count s k b seen m;
    given = meets_given S R (End b) Done m;
    ended = λ n some. grind (arith, gone, same_shown R a n, is_id a n, times_apart n a [], cases_Bool (is_same a n));
    others = λ n none. others_left (End b) Done m b (pointer_in n) (seen_store S b s seen)
        (λ ne. same_value S R (End b) Done s m (pointer_in n) ne tt)
        (λ same. absurd (once n none (sym own ∙ same)));
  }
    where
      seen : is_some (value_in S b) ≡ true
      seen = ap is_some (same_id_sees S b (pointer_in a) own) ∙ live

      gone : value_in R (pointer_in a) ≡ None
      gone = sym (same_id_sees R b (pointer_in a) own) ∙ unseen R b (ends b {U = Unit {0}} (Ok tt) m)

      once : (n : Node T) → times n (a ∷ []) ≡ 0 → IsSame a n → ⊥
      once n none same = grind (arith, times_more n a [], same_id a n)

  -- a node that was live, and stands once in the list, is live until its turn comes
  pub still_live : {S R : State T} {nodes items : List (Node T)} {i : ℕ} (d : Node T)
      → HasLostNodes S (take i nodes) R → items ≡ nodes → i < length items
      → ((j : ℕ) (n : Node T) → slice_get nodes j ≡ Some n → IsLiveIn S n)
      → ((n : Node T) → times n nodes ≤ 1) → IsLiveIn R (get_or items i d)
  still_live {S} {R} {nodes} {items} {i} d lost same lt live once =
      subst (λ xs. IsLiveIn R (get_or xs i d)) (sym same)
      (ap is_some (lost.others n none) ∙ live i n (slice_get-get_or nodes i d within))
    where
      n : Node T
      n = get_or nodes i d

      within : i < length nodes
      within = subst (λ xs. i < length xs) same lt

      none : times n (take i nodes) ≡ 0
      none =
          let all = sum_by-take-le (λ c. cond (is_same c n) 1 0) nodes (i + 1) in
          let both = times_both n (take i nodes) (n ∷ []) in
          grind (arith, take_more nodes i d within, once n, times_more n n [] (same_id n n refl))
