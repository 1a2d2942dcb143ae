-- Links and marks, by slots.
use Rattle.std.proofs.Common.{ap, arith, Bool, true, false, get_or, inl, inr, length, List, None, Option, refl, set, subst}
use Rattle.std.proofs.Common.{Some, eqb-true, suc, sym, take, zero, ℕ, [], ⊎_elim, ◌++◌, ◌+◌, ◌<◌, ◌∙◌, ◌∷◌, ◌≡◌, ◌≢◌, ◌≤◌}
use Rattle.std.proofs.lemmas.Bool.{cases_eq, true≢false}
use Rattle.std.proofs.lemmas.List.Elements.{Contains-append_left, Contains-push_cases, All-contains, All-more, All-weaker}
use Rattle.std.proofs.lemmas.List.{get_or-set_other, get_or-set_same, length-set, take_all}
use Rattle.std.proofs.lemmas.List.Sums.{sum_by-le, sum_by-set}
use Rattle.std.proofs.lemmas.Option.{none-some}
use Rattle.std.specs.Prelude.{cond, Err, is_some, Ok, OnErr, OnOk, Result, slice_get, ◌⊎◌, ◌||◌}
use Rattle.std.specs.List.{All, Contains, filter}
use Rattle.std.specs.List.Retain.{RetainsInTurn}
use Rattle.smallvec.specs.SmallVec.{SmallVec}
use Rattle.std.specs.Vec.{vec_items}
use Rattle.dirty_slots.specs.declared.slots.DirtySlots.{DirtySlots}
use Rattle.dirty_slots.specs.Blocks.{AreDoubted, clean_at}
use Rattle.reactive.specs.declared.key.Key.{Key}
use Rattle.reactive.specs.declared.links.Edge.{Edge}
use Rattle.reactive.specs.declared.links.Mark.{Mark}
use Rattle.reactive.specs.declared.links.Mark.TheVariants as mark
use Rattle.reactive.specs.declared.links.Marks.{Marks}
use Rattle.reactive.specs.declared.links.Owner.{Owner}
use Rattle.reactive.specs.declared.links.Web.{Web}
use Rattle.reactive.specs.Links.{AreNumbered, edges_at, edges_by, generation_of, HasForgotten, is_current, is_same, IsSlotLinked}
use Rattle.reactive.specs.Links.{IsRelinked, Keeps, known_at, Leans, leans_by, leans_itself, owner_at, unknown}
use Rattle.reactive.specs.Visiting.{AreToVisit, count_known, Drops, HaveRoom, IsDropped, LeadThrough, next_of}

-- ==== lists

module _ {X : Type 0} where
  pub get_same : (xs : List X) (i : ℕ) (v : X) → i < length xs → slice_get (set xs i v) i ≡ Some v
  get_same [] i v lt = absurd (omega (arith, lt))
  get_same (x ∷ xs) zero v lt = refl
  get_same (x ∷ xs) (suc i) v lt = get_same xs i v (omega (arith, lt))

  pub get_other : (xs : List X) (i j : ℕ) (v : X) → j ≢ i → slice_get (set xs i v) j ≡ slice_get xs j
  get_other [] i j v ne = refl
  get_other (x ∷ xs) zero zero v ne = absurd (ne refl)
  get_other (x ∷ xs) zero (suc j) v ne = refl
  get_other (x ∷ xs) (suc i) zero v ne = refl
  get_other (x ∷ xs) (suc i) (suc j) v ne = get_other xs i j v (λ e. ne (ap suc e))

  pub any_default : (xs : List X) (i : ℕ) (d e : X) → i < length xs → get_or xs i d ≡ get_or xs i e
  any_default [] i d e lt = absurd (omega (arith, lt))
  any_default (x ∷ xs) zero d e lt = refl
  any_default (x ∷ xs) (suc i) d e lt = any_default xs i d e (omega (arith, lt))

  -- what passes a test stays
  head_in : (b : Bool) (x : X) (ys : List X) (e : X) → b ≡ true → x ≡ e → Contains (cond b (x ∷ ys) ys) e
  head_in true x ys e t is = (0, omega arith, is)
  head_in false x ys e t is = absurd (true≢false (sym t))

  rest_in : (b : Bool) (x : X) (ys : List X) (e : X) → Contains ys e → Contains (cond b (x ∷ ys) ys) e
  rest_in true x ys e (k, low, at) = (suc k, omega (arith, low), at)
  rest_in false x ys e h = h

  pub filter_keeps : (test : X → Bool) (xs : List X) (e : X) → test e ≡ true → Contains xs e
      → Contains (filter test xs) e
  filter_keeps test [] e t (k, low, at) = absurd (omega (arith, low))
  filter_keeps test (x ∷ xs) e t (zero, low, at) = head_in (test x) x (filter test xs) e (ap test at ∙ t) at
  filter_keeps test (x ∷ xs) e t (suc k, low, at) =
      rest_in (test x) x (filter test xs) e (filter_keeps test xs e t (k, omega (arith, low), at))

  -- and nothing else does
  shifted : (x : X) (xs : List X) (e : X) → Contains xs e → Contains (x ∷ xs) e
  shifted x xs e (k, low, at) = (suc k, omega (arith, low), at)

  cond_only : (b : Bool) (x : X) (ys xs : List X) (e : X) → (Contains ys e → Contains xs e)
      → Contains (cond b (x ∷ ys) ys) e → Contains (x ∷ xs) e
  cond_only true x ys xs e only (zero, low, at) = (zero, omega arith, at)
  cond_only true x ys xs e only (suc k, low, at) = shifted x xs e (only (k, omega (arith, low), at))
  cond_only false x ys xs e only h = shifted x xs e (only h)

  pub filter_only : (test : X → Bool) (xs : List X) (e : X) → Contains (filter test xs) e → Contains xs e
  filter_only test [] e h = h
  filter_only test (x ∷ xs) e h = cond_only (test x) x (filter test xs) xs e (λ more. filter_only test xs e more) h

  -- what a vector has after a push
  pub pushed_only : {A E : Type 0} (r : Result A E) (old new : SmallVec X) (x e : X)
      → OnOk r (new.items ≡ old.items ++ x ∷ []) → OnErr r (new ≡ old) → Contains new.items e
      → Contains old.items e ⊎ (e ≡ x)
  pushed_only (Ok u) old new x e ok err h = ⊎_elim (λ was. inl was) (λ same. inr (sym same))
      (Contains-push_cases old.items x e (subst (λ xs. Contains xs e) ok h))
  pushed_only (Err f) old new x e ok err h = inl (subst (λ v. Contains v.items e) err h)

  pub pushed : {A E : Type 0} (r : Result A E) (old new : SmallVec X) (x e : X)
      → OnOk r (new.items ≡ old.items ++ x ∷ []) → OnErr r (new ≡ old) → Contains old.items e → Contains new.items e
  pushed (Ok u) old new x e ok err h =
      subst (λ xs. Contains xs e) (sym ok) (Contains-append_left old.items (x ∷ []) e h)
  pushed (Err f) old new x e ok err h = subst (λ v. Contains v.items e) (sym err) h

-- a closure that changes nothing keeps what passes its test
pub kept_by_test : {X F : Type 0} (R : F → X → Bool → F → X → Type 0) (test : X → Bool) (f : F)
    → ((x : X) (b : Bool) (g : F) (y : X) → R f x b g y → (b ≡ test x) × (g ≡ f) × (y ≡ x))
    → (xs ys : List X) → RetainsInTurn R f xs ys → ys ≡ filter test xs
kept_by_test R test f says [] ys is = is
kept_by_test R test f says (x ∷ xs) ys (b, g, y, called, zs, more, is) =
    let (told, still, same) = says x b g y called in
    let rest = kept_by_test R test f says xs zs (subst (λ h. RetainsInTurn R h xs zs) still more) in
    is ∙ (λ i. cond (told i) (same i ∷ rest i) (rest i))

-- ==== edges

pub like_itself : (e : Edge) → is_same e e ≡ true
like_itself e = grind arith

pub stays : (owners : List Owner) (edge e : Edge) → (is_current owners e ≡ true) ⊎ (e ≡ edge)
    → (is_current owners e || is_same e edge) ≡ true
stays owners edge e (inl now) = rw now refl
stays owners edge e (inr is) = grind (arith, like_itself)

-- a slot's edges were replaced
pub put_edges : (rs : List (SmallVec Edge)) (to s : ℕ) (v : SmallVec Edge) (e : Edge) → to < length rs
    → (Contains (edges_by (slice_get rs to)) e → Contains v.items e)
    → Contains (edges_by (slice_get rs s)) e → Contains (edges_by (slice_get (set rs to v) s)) e
put_edges rs to s v e lt keeps h = ⊎_elim
    (λ here. subst (λ x. Contains (edges_by x) e) (sym (ap (slice_get (set rs to v)) here ∙ get_same rs to v lt))
    (keeps (subst (λ x. Contains (edges_by (slice_get rs x)) e) here h)))
    (λ other. rw (get_other rs to s v other) h)
    (cases_eq s to)

pub put_only : (rs : List (SmallVec Edge)) (to s : ℕ) (v : SmallVec Edge) (e edge : Edge) → to < length rs
    → (Contains v.items e → Contains (edges_by (slice_get rs to)) e ⊎ (e ≡ edge))
    → Contains (edges_by (slice_get (set rs to v) s)) e
    → Contains (edges_by (slice_get rs s)) e ⊎ ((e ≡ edge) × (s ≡ to))
put_only rs to s v e edge lt only h = ⊎_elim
    (λ here. ⊎_elim
    (λ was. inl (subst (λ x. Contains (edges_by (slice_get rs x)) e) (sym here) was))
    (λ is. inr (is, here))
    (only (subst (λ x. Contains (edges_by x) e) (ap (slice_get (set rs to v)) here ∙ get_same rs to v lt) h)))
    (λ other. inl (subst (λ x. Contains (edges_by x) e) (get_other rs to s v other) h))
    (cases_eq s to)

-- an edge of a slot's own number isn't old
current_itself : (w : Web) (r : ℕ)
    → is_current (vec_items w.owners) (record { slot = r; number = (owner_at (vec_items w.owners) r).number }) ≡ true
current_itself w r = grind arith

-- a slot is linked to one more
abbrev pub IsEdge : Web → ℕ → ℕ → Key → Type 0
IsEdge w slot number a = Contains (edges_at w a.id.slot) (record { slot = slot; number = number })

module _ (old : Web) (slot number : ℕ) (reads : List Key) where
  abbrev pub IsNewEdge : Edge → ℕ → Type 0
  IsNewEdge e s = (e ≡ record { slot = slot; number = number }) × (a : Key) × Contains reads a × (a.id.slot ≡ s)

  -- the first so many are linked
  pub record Relinking (i : ℕ) (now : Web) : Type 0 where
    pub owners : (s : ℕ) → owner_at (vec_items now.owners) s ≡ owner_at (vec_items old.owners) s
    pub links : (r s : ℕ) → IsSlotLinked old r s → IsSlotLinked now r s
    pub linked : All (IsEdge now slot number) (take i reads)
    pub only : (s : ℕ) (e : Edge) → Contains (edges_at now s) e → Contains (edges_at old s) e ⊎ IsNewEdge e s

  -- an edge was put
  pub record IsAdded (to : ℕ) (now new : Web) : Type 0 where
    pub owners : new.owners ≡ now.owners
    pub kept : (s : ℕ) (e : Edge) → Contains (edges_at now s) e
        → (is_current (vec_items now.owners) e ≡ true) ⊎ (e ≡ record { slot = slot; number = number })
        → Contains (edges_at new s) e
    pub only : (s : ℕ) (e : Edge) → Contains (edges_at new s) e
        → Contains (edges_at now s) e ⊎ ((e ≡ record { slot = slot; number = number }) × (s ≡ to))

  module _ (i : ℕ) (d : Key) (lt : i < length reads) (now new : Web) (h : Relinking i now)
      (a : IsAdded (get_or reads i d).id.slot now new) where
    links_left : (r s : ℕ) → IsSlotLinked old r s → IsSlotLinked new r s
    links_left r s link =
        let was = h.links r s link in
        let stayed = a.kept s _ was (inl (current_itself now r)) in
        subst (λ os. Contains (edges_at new s) (record { slot = r; number = (owner_at (vec_items os) r).number })) (sym a.owners) stayed

    owners_left : (s : ℕ) → owner_at (vec_items new.owners) s ≡ owner_at (vec_items old.owners) s
    owners_left s = ap (λ os. owner_at (vec_items os) s) a.owners ∙ h.owners s

    read_in : Contains reads (get_or reads i d)
    read_in = (i, lt, any_default reads i (get_or reads i d) d lt)

    only_left : (s : ℕ) (e : Edge) → Contains (edges_at new s) e → Contains (edges_at old s) e ⊎ IsNewEdge e s
    only_left s e c = ⊎_elim
        (λ was. h.only s e was)
        (λ is. inr (is.0, get_or reads i d, read_in, sym is.1))
        (a.only s e c)

    pub link_more : Contains (edges_at new (get_or reads i d).id.slot) (record { slot = slot; number = number })
        → Relinking (i + 1) new
    link_more added = record {
      owners = owners_left;
      links = links_left;
      linked = All-more (IsEdge new slot number) reads i d lt
          (All-weaker (IsEdge now slot number) (IsEdge new slot number)
          (λ x in_it. a.kept x.id.slot _ in_it (inr refl)) (take i reads) h.linked)
          added;
      only = only_left;
    }

    pub link_failed : old.number ≡ number → new.number ≡ number + 1 → Keeps old new
    link_failed at next = record {
      owners = owners_left;
      links = links_left;
      only = λ below r s link.
          let low = below.owners r in
          let owner = ap (λ o. o.number) (owners_left r) in
          let was : Contains (edges_at new s) (record { slot = r; number = (owner_at (vec_items old.owners) r).number }) =
          subst (λ n. Contains (edges_at new s) (record { slot = r; number = n })) owner link in
          ⊎_elim
          (λ is. is)
          (λ is. absurd (let same = ap (λ e. e.number) is.0 in let wrong : ⊥ = omega (arith, low, at, same) in wrong))
          (only_left s _ was);
      numbered = λ below. numbered_left below at next;
    } where
      numbered_left : AreNumbered old → old.number ≡ number → new.number ≡ number + 1 → AreNumbered new
      numbered_left below at next = record {
        owners = λ s. let low = below.owners s in let owner = ap (λ o. o.number) (owners_left s) in omega (arith, low, at, next, owner);
        edges = λ s e c. ⊎_elim
            (λ was. let low = below.edges s e was in omega (arith, low, at, next))
            (λ is. let same = ap (λ x. x.number) is.0 in omega (arith, same, next))
            (only_left s e c);
      }

-- the owners and the edges are as they were
module _ (old new : Web) (owners : (s : ℕ) → owner_at (vec_items new.owners) s ≡ owner_at (vec_items old.owners) s)
    (readers : new.readers ≡ old.readers) where
  same_edges : (s : ℕ) → edges_at new s ≡ edges_at old s
  same_edges s = ap (λ rs. edges_by (slice_get (vec_items rs) s)) readers

  same_link : (r s : ℕ) → IsSlotLinked new r s ≡ IsSlotLinked old r s
  same_link r s = λ i. Contains (same_edges s i) (record { slot = r; number = (owners r i).number })

  pub kept_web : new.number ≡ old.number → Keeps old new
  kept_web number = record {
    owners = owners;
    links = λ r s link. rw (same_link r s) link;
    only = λ below r s link. rw (same_link r s) at link;
    numbered = λ below. record {
      owners = λ s. let low = below.owners s in let owner = ap (λ o. o.number) (owners s) in omega (arith, low, owner, number);
      edges = λ s e h. let low = below.edges s e (rw (same_edges s) at h) in omega (arith, low, number);
    };
  }

  pub begin_relink : (slot number : ℕ) (reads : List Key) → Relinking old slot number reads 0 new
  begin_relink slot number reads = record {
    owners = owners;
    links = λ r s link. rw (same_link r s) link;
    linked = λ k d lt. absurd (omega (arith, lt));
    only = λ s e h. inl (rw (same_edges s) at h);
  }

-- all are linked, and the owner is put
module _ (old now new : Web) (k : Key) (number : ℕ) (reads : List Key) (i : ℕ)
    (h : Relinking old k.id.slot number reads i now) (past : length reads ≤ i)
    (edges : new.readers ≡ now.readers) (lt : k.id.slot < length (vec_items now.owners))
    (put : vec_items new.owners ≡ set (vec_items now.owners) k.id.slot (record { generation = Some k.id.generation; number = number }))
    (at : old.number ≡ number) (next : new.number ≡ number + 1) where
  owner_here : owner_at (vec_items new.owners) k.id.slot ≡ record { generation = Some k.id.generation; number = number }
  owner_here = ap (λ os. owner_at os k.id.slot) put ∙ get_or-set_same (vec_items now.owners) k.id.slot _ _ lt

  owner_other : (s : ℕ) → s ≢ k.id.slot → owner_at (vec_items new.owners) s ≡ owner_at (vec_items old.owners) s
  owner_other s ne = ap (λ os. owner_at os s) put ∙ (get_or-set_other (vec_items now.owners) k.id.slot s _ _ ne ∙ h.owners s)

  edges_left : (s : ℕ) → edges_at new s ≡ edges_at now s
  edges_left s = ap (λ rs. edges_by (slice_get (vec_items rs) s)) edges

  -- an edge that stands now stood before, or is new
  edge_cases : (s : ℕ) (e : Edge) → Contains (edges_at new s) e
      → Contains (edges_at old s) e ⊎ IsNewEdge old k.id.slot number reads e s
  edge_cases s e c = h.only s e (subst (λ es. Contains es e) (edges_left s) c)

  below_now : AreNumbered old → AreNumbered new
  below_now below = record {
    owners = λ s. ⊎_elim
        (λ here. let owner = ap (λ x. (owner_at (vec_items new.owners) x).number) here ∙ ap (λ o. o.number) owner_here in
        omega (arith, owner, next))
        (λ other. let low = below.owners s in let owner = ap (λ o. o.number) (owner_other s other) in
        omega (arith, low, owner, at, next))
        (cases_eq s k.id.slot);
    edges = λ s e c. ⊎_elim
        (λ was. let low = below.edges s e was in omega (arith, low, at, next))
        (λ is. let same = ap (λ x. x.number) is.0 in omega (arith, same, next))
        (edge_cases s e c);
  }

  exact : AreNumbered old → (s : ℕ) → IsSlotLinked new k.id.slot s → (a : Key) × Contains reads a × (a.id.slot ≡ s)
  exact below s link =
      let here : Contains (edges_at new s) (record { slot = k.id.slot; number = number }) =
      subst (λ n. Contains (edges_at new s) (record { slot = k.id.slot; number = n })) (ap (λ o. o.number) owner_here) link in
      ⊎_elim
      (λ was. absurd (let low = below.edges s _ was in let wrong : ⊥ = omega (arith, low, at) in wrong))
      (λ is. (is.1, is.2, is.3))
      (edge_cases s _ here)

  only_other : AreNumbered old → (r s : ℕ) → r ≢ k.id.slot → IsSlotLinked new r s → IsSlotLinked old r s
  only_other below r s ne link =
      let was : Contains (edges_at new s) (record { slot = r; number = (owner_at (vec_items old.owners) r).number }) =
      subst (λ n. Contains (edges_at new s) (record { slot = r; number = n })) (ap (λ o. o.number) (owner_other r ne)) link in
      ⊎_elim
      (λ is. is)
      (λ is. absurd (ne (ap (λ e. e.slot) is.0)))
      (edge_cases s _ was)

  pub relinked : IsRelinked old k reads new
  relinked = record {
    owned = ap (λ o. o.generation) owner_here;
    linked = λ a in_it.
        let all = subst (All (IsEdge now k.id.slot number)) (take_all i reads past) h.linked in
        let edge = All-contains (IsEdge now k.id.slot number) reads a all in_it in
        subst (λ n. Contains (edges_at new a.id.slot) (record { slot = k.id.slot; number = n })) (sym (ap (λ o. o.number) owner_here))
        (subst (λ es. Contains es (record { slot = k.id.slot; number = number })) (sym (edges_left a.id.slot)) edge);
    exact = exact;
    owners = owner_other;
    links = λ r s ne link.
        let was = h.links r s link in
        let same : (owner_at (vec_items now.owners) r).number ≡ (owner_at (vec_items new.owners) r).number =
        ap (λ o. o.number) (h.owners r ∙ sym (owner_other r ne)) in
        subst (λ n. Contains (edges_at new s) (record { slot = r; number = n })) same
        (subst (λ es. Contains es (record { slot = r; number = (owner_at (vec_items now.owners) r).number })) (sym (edges_left s)) was);
    only = only_other;
    numbered = below_now;
  }

-- ==== marks

in_rest : {X : Type 0} (x : X) (xs : List X) (y : X) → Contains xs y → Contains (x ∷ xs) y
in_rest x xs y (k, lt, is) = (suc k, omega (arith, lt), is)

in_first : {X : Type 0} (x : X) (xs : List X) → Contains (x ∷ xs) x
in_first x xs = (0, omega arith, refl)

first_or_rest : {X : Type 0} (x : X) (xs : List X) (y : X) → Contains (x ∷ xs) y → (x ≡ y) ⊎ Contains xs y
first_or_rest x xs y (zero, lt, is) = inl is
first_or_rest x xs y (suc k, lt, is) = inr (k, omega (arith, lt), is)

-- what was forgotten stays so
abbrev IsFewer : List Mark → List Mark → Type 0
IsFewer old new = (s g : ℕ) → known_at new s ≡ Some g → known_at old s ≡ Some g

pub still_none : (old new : List Mark) → IsFewer old new → (s : ℕ) → known_at old s ≡ None → known_at new s ≡ None
still_none old new fewer s none = by_cases (known_at new s) (λ g is. fewer s g is) where
  by_cases : (o : Option ℕ) → ((g : ℕ) → o ≡ Some g → known_at old s ≡ Some g) → o ≡ None
  by_cases None h = refl
  by_cases (Some g) h = absurd (none-some g (sym none ∙ h g refl))

-- ---- a mark is set

known_within : (marks : List Mark) (s g : ℕ) → known_at marks s ≡ Some g → s < length marks
known_within [] s g is = absurd (none-some g is)
known_within (m ∷ marks) zero g is = omega arith
known_within (m ∷ marks) (suc s) g is = let lt = known_within marks s g is in omega (arith, lt)

pub count_within : (marks : List Mark) → count_known marks ≤ length marks
count_within marks =
    let le = sum_by-le (λ m. cond (is_some (generation_of m)) 1 0) 1 marks (λ k d lt. one_at_most (get_or marks k d)) in
    omega (arith, le) where
      one_at_most : (m : Mark) → cond (is_some (generation_of m)) 1 0 ≤ 1
      one_at_most m = by_cases (is_some (generation_of m)) where
        by_cases : (b : Bool) → cond b 1 0 ≤ 1
        by_cases true = omega arith
        by_cases false = omega arith

abbrev one_if : Bool → ℕ
one_if b = cond b 1 0

pub count_less : (marks : List Mark) (s g next : ℕ) → known_at marks s ≡ Some g
    → count_known (set marks s (mark.Unknown next)) + 1 ≡ count_known marks
count_less marks s g next is =
    let lt = known_within marks s g is in
    let sum = sum_by-set (λ m. cond (is_some (generation_of m)) 1 0) marks s (mark.Unknown next) unknown lt in
    let one : one_if (is_some (known_at marks s)) ≡ 1 = rw is refl in
    omega (arith, sum, one)

module _ (marks : List Mark) (s g : ℕ) (m : Mark) (is : known_at marks s ≡ Some g) where
  unlisted : (x : ℕ) → known_at marks x ≡ None → x ≢ s
  unlisted x none e = none-some g (sym none ∙ (ap (known_at marks) e ∙ is))

  lead_set : (first : ℕ) (list : List ℕ) → LeadThrough marks first list → LeadThrough (set marks s m) first list
  lead_set first [] h = tt
  lead_set first (x ∷ rest) (at, lt, none, more) =
      let same = get_or-set_other marks s x m unknown (unlisted x none) in (
        at,
        rw (length-set marks s m) lt,
        ap generation_of same ∙ none,
        subst (λ n. LeadThrough (set marks s m) n rest) (sym (ap next_of same))
            (lead_set (next_of (get_or marks x unknown)) rest more),
      )

-- ---- the readers of a slot are forgotten one by one

abbrev pub IsGone : Web → List Mark → Edge → Type 0
IsGone w known e = is_current (vec_items w.owners) e ≡ true → known_at known e.slot ≡ None

module _ (w : Web) (first : List Mark) (before : List ℕ) (edges : List Edge) where
  -- a slot reads, of which something was known
  abbrev pub IsReader : ℕ → Type 0
  IsReader s = (g : ℕ) × (known_at first s ≡ Some g)
      × Contains edges (record { slot = s; number = (owner_at (vec_items w.owners) s).number })

  -- the first so many were
  pub record Dropping (i : ℕ) (now : List Mark) (list : List ℕ) : Type 0 where
    pub fewer : IsFewer first now
    pub gone : All (IsGone w now) (take i edges)
    pub rest : (s : ℕ) → (known_at now s ≡ known_at first s) ⊎ Contains list s
    pub todo : (s : ℕ) → Contains before s → Contains list s
    pub only : (s : ℕ) → Contains list s → Contains before s ⊎ IsReader s

  pub begin_drop : Dropping 0 first before
  begin_drop = record {
    fewer = λ s g is. is;
    gone = λ k d lt. absurd (omega (arith, lt));
    rest = λ s. inl refl;
    todo = λ s h. h;
    only = λ s h. inl h;
  }

  module _ (i : ℕ) (e : Edge) (lt : i < length edges) (is : e ≡ get_or edges i e) (now new : Marks) (list : List ℕ)
      (h : Dropping i (vec_items now.known) list) (listed : AreToVisit now list) where
    gone_more : IsFewer (vec_items now.known) (vec_items new.known) → IsGone w (vec_items new.known) e
        → All (IsGone w (vec_items new.known)) (take (i + 1) edges)
    gone_more fewer gone = All-more (IsGone w (vec_items new.known)) edges i e lt
        (All-weaker (IsGone w (vec_items now.known)) (IsGone w (vec_items new.known))
        (λ x old current. still_none (vec_items now.known) (vec_items new.known) fewer x.slot (old current)) (take i edges) h.gone)
        (rw is at gone)

    module _ (current : is_current (vec_items w.owners) e ≡ true) (g : ℕ)
        (had : known_at (vec_items now.known) e.slot ≡ Some g)
        (put : vec_items new.known ≡ set (vec_items now.known) e.slot (mark.Unknown now.first))
        (head : new.first ≡ e.slot) (left : new.left ≡ now.left + 1) where
      within : e.slot < length (vec_items now.known)
      within = known_within (vec_items now.known) e.slot g had

      mark_here : get_or (vec_items new.known) e.slot unknown ≡ mark.Unknown now.first
      mark_here = ap (λ ms. get_or ms e.slot unknown) put ∙ get_or-set_same (vec_items now.known) e.slot _ _ within

      none_here : known_at (vec_items new.known) e.slot ≡ None
      none_here = ap generation_of mark_here

      same_other : (s : ℕ) → s ≢ e.slot → known_at (vec_items new.known) s ≡ known_at (vec_items now.known) s
      same_other s ne = ap (λ ms. known_at ms s) put
          ∙ ap generation_of (get_or-set_other (vec_items now.known) e.slot s _ unknown ne)

      fewer_now : IsFewer (vec_items now.known) (vec_items new.known)
      fewer_now s v at = ⊎_elim
          (λ this. absurd (none-some v (sym none_here ∙ (ap (known_at (vec_items new.known)) (sym this) ∙ at))))
          (λ other. sym (same_other s other) ∙ at)
          (cases_eq s e.slot)

      listed_more : AreToVisit new (e.slot ∷ list)
      listed_more = (
        omega (arith, left, listed.0),
        (
          head,
          rw (put, length-set (vec_items now.known) e.slot (mark.Unknown now.first)) within,
          none_here,
          subst (λ n. LeadThrough (vec_items new.known) n list) (sym (ap next_of mark_here))
              (subst (λ ms. LeadThrough ms now.first list) (sym put)
              (lead_set (vec_items now.known) e.slot g (mark.Unknown now.first) had now.first list listed.1)),
        ),
      )

      edge_is : e ≡ record { slot = e.slot; number = (owner_at (vec_items w.owners) e.slot).number }
      edge_is = λ j. record { slot = e.slot; number = sym (eqb-true (owner_at (vec_items w.owners) e.slot).number e.number current) j }

      reader_here : IsReader e.slot
      reader_here = (g, h.fewer e.slot g had, subst (Contains edges) edge_is (i, lt, sym is))

      dropped_one : Dropping (i + 1) (vec_items new.known) (e.slot ∷ list)
      dropped_one = record {
        fewer = λ s v at. h.fewer s v (fewer_now s v at);
        gone = gone_more fewer_now (λ c. none_here);
        rest = λ s. ⊎_elim
            (λ this. inr (subst (Contains (e.slot ∷ list)) (sym this) (in_first e.slot list)))
            (λ other. ⊎_elim
            (λ same. inl (same_other s other ∙ same))
            (λ in_it. inr (in_rest e.slot list s in_it))
            (h.rest s))
            (cases_eq s e.slot);
        todo = λ s in_it. in_rest e.slot list s (h.todo s in_it);
        only = λ s in_it. ⊎_elim
            (λ this. inr (subst IsReader this reader_here))
            (λ other. h.only s other)
            (first_or_rest e.slot list s in_it);
      }

    pub drop_more : IsDropped w e now new → (more : List ℕ) × AreToVisit new more × Dropping (i + 1) (vec_items new.known) more
    drop_more (inl (same, none)) = (
      list,
      subst (λ m. AreToVisit m list) (sym same) listed,
      record {
        fewer = subst (λ m. IsFewer first (vec_items m.known)) (sym same) h.fewer;
        gone = gone_more (subst (λ m. IsFewer (vec_items now.known) (vec_items m.known)) (sym same) (λ s v at. at))
            (λ current. ap (λ m. known_at (vec_items m.known) e.slot) same ∙ none current);
        rest = λ s. subst (λ m. (known_at (vec_items m.known) s ≡ known_at first s) ⊎ Contains list s) (sym same) (h.rest s);
        todo = h.todo;
        only = h.only;
      },
    )
    drop_more (inr (current, (g, had, put, head, left))) = (
      e.slot ∷ list,
      listed_more current g had put head left,
      dropped_one current g had put head left,
    )

-- there is room for one that is dropped, which is counted no longer
pub dropped_room : (w : Web) (e : Edge) (now new : Marks) → IsDropped w e now new → HaveRoom now
    → HaveRoom new × (count_known (vec_items new.known) + count_known (vec_items new.known) + new.left
    ≤ count_known (vec_items now.known) + count_known (vec_items now.known) + now.left)
dropped_room w e now new (inl (same, none)) room = rw same (room, omega arith)
dropped_room w e now new (inr (current, (g, had, put, head, left))) room =
    let one = ap count_known put in
    let less = count_less (vec_items now.known) e.slot g now.first had in
    let long = ap length put ∙ length-set (vec_items now.known) e.slot (mark.Unknown now.first) in
    (omega (arith, one, less, long, left, room), omega (arith, one, less, left))

pub dropped_all : (w : Web) (first now : List Mark) (before list : List ℕ) (slot i : ℕ) → length (edges_at w slot) ≤ i
    → Dropping w first before (edges_at w slot) i now list → Drops w first before slot now list
dropped_all w first now before list slot i past h = record {
  fewer = h.fewer;
  readers = λ r g is link.
      let all = rw (take_all i (edges_at w slot) past) at h.gone in
      none-some g (sym (All-contains (IsGone w now) (edges_at w slot) _ all link (current_itself w r)) ∙ is);
  rest = h.rest;
  todo = h.todo;
  only = h.only;
}

pub dropped_none : (w : Web) (first : List Mark) (before : List ℕ) (slot : ℕ) → slice_get (vec_items w.readers) slot ≡ None
    → Drops w first before slot first before
dropped_none w first before slot none = record {
  fewer = λ s g is. is;
  readers = λ r g is link. let nothing : Contains [] _ = rw none at link in absurd (omega (arith, nothing.1));
  rest = λ s. inl refl;
  todo = λ s h. h;
  only = λ s h. inl h;
}

-- ---- the readers of one more slot were forgotten

module _ (w : Web) (first : List Mark) (slot : ℕ) where
  -- what is known reads nothing that was forgotten, but what is on a list; and what was forgotten leans on the slot
  pub record Waits (now : List Mark) (list : List ℕ) : Type 0 where
    pub fewer : IsFewer first now
    pub here : known_at now slot ≡ None
    pub rest : (r s g : ℕ) → known_at now r ≡ Some g → IsSlotLinked w r s
        → ((s ≢ slot) × (known_at now s ≡ known_at first s)) ⊎ Contains list s
    pub spared : (s : ℕ) → (known_at now s ≡ known_at first s) ⊎ Leans w (known_at first) s slot
    pub listed : (s : ℕ) → Contains list s → Leans w (known_at first) s slot

  module _ (now new : List Mark) (list more : List ℕ) (next : ℕ) (d : Drops w now list next new more)
      (h : Waits now (next ∷ list)) where
    leaning : (s : ℕ) → Contains more s → Leans w (known_at first) s slot
    leaning s in_it = ⊎_elim
        (λ before. h.listed s (in_rest next list s before))
        (λ reads. leans_by s next slot reads.0 (h.fewer s reads.0 reads.1) reads.2 (h.listed next (in_first next list)))
        (d.only s in_it)

    pub one_dropped : Waits new more
    one_dropped = record {
      fewer = λ s g is. h.fewer s g (d.fewer s g is);
      here = still_none now new d.fewer slot h.here;
      rest = λ r s g is link. ⊎_elim
          (λ same. ⊎_elim
          (λ left. inl (same.0, left ∙ same.1))
          (λ in_it. inr in_it)
          (d.rest s))
          (λ waits. ⊎_elim
          (λ this. absurd (d.readers r g is (subst (λ x. IsSlotLinked w r x) (sym this) link)))
          (λ before. inr (d.todo s before))
          (first_or_rest next list s waits))
          (h.rest r s g (d.fewer r g is) link);
      spared = λ s. ⊎_elim
          (λ same. ⊎_elim (λ was. inl (same ∙ was)) (λ leans. inr leans) (h.spared s))
          (λ in_it. inr (leaning s in_it))
          (d.rest s);
      listed = leaning;
    }

-- ---- the slot itself was forgotten, and its readers

pub begin_waits : (w : Web) (first start now : List Mark) (list : List ℕ) (slot : ℕ) → known_at start slot ≡ None
    → ((s : ℕ) → s ≢ slot → known_at start s ≡ known_at first s)
    → Drops w start [] slot now list → Waits w first slot now list
begin_waits w first start now list slot here others d = record {
  fewer = λ s g is. fewer_at s g (d.fewer s g is) (cases_eq s slot);
  here = still_none start now d.fewer slot here;
  rest = λ r s g is link. ⊎_elim
      (λ this. absurd (d.readers r g is (subst (λ x. IsSlotLinked w r x) this link)))
      (λ other. ⊎_elim
      (λ same. inl (other, same ∙ others s other))
      (λ in_it. inr in_it)
      (d.rest s))
      (cases_eq s slot);
  spared = λ s. ⊎_elim
      (λ this. inr (subst (λ x. Leans w (known_at first) x slot) (sym this) (leans_itself slot)))
      (λ other. ⊎_elim (λ same. inl (same ∙ others s other)) (λ in_it. inr (leaning s in_it)) (d.rest s))
      (cases_eq s slot);
  listed = leaning;
} where
  fewer_at : (s g : ℕ) → known_at start s ≡ Some g → (s ≡ slot) ⊎ (s ≢ slot) → known_at first s ≡ Some g
  fewer_at s g is (inl this) = absurd (none-some g (sym here ∙ ap (known_at start) (sym this) ∙ is))
  fewer_at s g is (inr other) = sym (others s other) ∙ is

  leaning : (s : ℕ) → Contains list s → Leans w (known_at first) s slot
  leaning s in_it = ⊎_elim
      (λ nothing. absurd (omega (arith, nothing.1)))
      (λ reads. leans_by s slot slot reads.0 (fewer_at s reads.0 reads.1 (cases_eq s slot)) reads.2 (leans_itself slot))
      (d.only s in_it)

pub waits_done : (w : Web) (first now : List Mark) (list : List ℕ) (slot : ℕ) → 0 ≡ length list
    → Waits w first slot now list → HasForgotten w first slot now
waits_done w first now list slot empty h = record {
  fewer = h.fewer;
  here = h.here;
  others = λ r s g is link. ⊎_elim
      (λ left. left)
      (λ waits. absurd (omega (arith, waits.1, empty)))
      (h.rest r s g is link);
}

-- one is taken from the list
pub taken : (m : Marks) (list : List ℕ) → AreToVisit m list → 0 < m.left
    → (rest : List ℕ) × (list ≡ m.first ∷ rest) × (m.first < length (vec_items m.known))
    × (m.left ≡ length rest + 1) × LeadThrough (vec_items m.known) (next_of (get_or (vec_items m.known) m.first unknown)) rest
taken m [] (len, lead) some = absurd (omega (arith, len, some))
taken m (s ∷ rest) (len, lead) some = (
  rest,
  (λ i. sym lead.0 i ∷ rest),
  rw lead.0 lead.1,
  omega (arith, len),
  subst (λ x. LeadThrough (vec_items m.known) (next_of (get_or (vec_items m.known) x unknown)) rest) (sym lead.0) lead.3,
)

pub known_past : (marks : List Mark) (s : ℕ) → length marks ≤ s → known_at marks s ≡ None
known_past [] s past = refl
known_past (m ∷ marks) zero past = absurd (omega (arith, past))
known_past (m ∷ marks) (suc s) past = known_past marks s (omega (arith, past))

-- ==== what stays clean

-- of a clean slot the same is known as before, or it is to be visited
abbrev pub Trusts : List Bool → List Mark → ℕ → List Mark → List ℕ → Type 0
Trusts right old slot now list = (s : ℕ) → clean_at right s ≡ true
    → (s ≢ slot) × ((known_at now s ≡ known_at old s) ⊎ Contains list s)

apart_if : (right : List Bool) (s t : ℕ) → clean_at right t ≡ false → clean_at right s ≡ true → s ≢ t
apart_if right s t wrong is same = true≢false (sym is ∙ (ap (clean_at right) same ∙ wrong))

pub trust_begin : (w : Web) (right : List Bool) (old mid now : List Mark) (slot : ℕ) (list : List ℕ)
    → clean_at right slot ≡ false → ((s : ℕ) → s ≢ slot → known_at mid s ≡ known_at old s)
    → Drops w mid [] slot now list → Trusts right old slot now list
trust_begin w right old mid now slot list wrong others d s is =
    let apart = apart_if right s slot wrong is in
    (apart, ⊎_elim (λ same. inl (same ∙ others s apart)) (λ there. inr there) (d.rest s))

-- in a list it is the first, or one of the others
first_or : (x : ℕ) (xs : List ℕ) (s : ℕ) → Contains (x ∷ xs) s → (s ≡ x) ⊎ Contains xs s
first_or x xs s (zero, lt, is) = inl (sym is)
first_or x xs s (suc k, lt, is) = inr (k, omega (arith, lt), is)

pub trust_more : (w : Web) (before right : List Bool) (old now new : List Mark) (slot next : ℕ) (rest list : List ℕ)
    → ((s : ℕ) → clean_at right s ≡ true → clean_at before s ≡ true) → clean_at right next ≡ false
    → Drops w now rest next new list → Trusts before old slot now (next ∷ rest) → Trusts right old slot new list
trust_more w before right old now new slot next rest list fewer wrong d trusts s is =
    let t = trusts s (fewer s is) in (
      t.0,
      ⊎_elim
          (λ same. ⊎_elim (λ stays. inl (stays ∙ same)) (λ there. inr there) (d.rest s))
          (λ there. ⊎_elim
          (λ first. absurd (apart_if right s next wrong is first))
          (λ later. inr (d.todo s later))
          (first_or next rest s there))
          t.1,
    )

pub trust_done : (right : List Bool) (old now : List Mark) (slot : ℕ) (list : List ℕ) → length list ≡ 0
    → Trusts right old slot now list → (s : ℕ) → clean_at right s ≡ true
    → (s ≢ slot) × (known_at now s ≡ known_at old s)
trust_done right old now slot [] none trusts s is =
    let t = trusts s is in (t.0, ⊎_elim (λ same. same) (λ there. absurd (omega (arith, there.1))) t.1)
trust_done right old now slot (x ∷ list) none trusts s is = absurd (omega (arith, none))

pub doubted_more : (old mid new : DirtySlots) → AreDoubted old mid → AreDoubted mid new → AreDoubted old new
doubted_more old mid new a b = record {
  fewer = λ s right. a.fewer s (b.fewer s right);
  flagged = λ s c was wrong in_block. ⊎_elim
      (λ right. b.flagged s c right wrong in_block)
      (λ not. b.kept c (a.flagged s c was not in_block))
      (is_or_not (clean_at (vec_items mid.clean) s));
  kept = λ c flag. b.kept c (a.kept c flag);
} where
  is_or_not : (b : Bool) → (b ≡ true) ⊎ (b ≡ false)
  is_or_not true = inl refl
  is_or_not false = inr refl
