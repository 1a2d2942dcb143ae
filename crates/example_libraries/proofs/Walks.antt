-- Walks over what libraries keep.
pub mod Common
unfoldable pub use Common.*

-- a row's key is paired with a value
pub stands_with : {E V : Type 0} (pairs : List (E × V)) (row : ℕ) (e : E)
    → slice_get (map (λ p. p.0) pairs) row ≡ Some e → (v : V) × (slice_get pairs row ≡ Some (e, v))
stands_with [] row e is = absurd (none-some e is)
stands_with (p ∷ pairs) zero e is = (p.1, ap (λ k. Some (k, p.1)) (same_Some p.0 e is))
stands_with (p ∷ pairs) (suc row) e is = stands_with pairs row e is

-- what holds of each item and of one more holds of all
pub each_more : {P : Type 0} (Q : P → Type 0) (xs : List P) (y : P)
    → ((k : ℕ) (p : P) → slice_get xs k ≡ Some p → Q p) → Q y
    → (k : ℕ) (p : P) → slice_get (xs ++ y ∷ []) k ≡ Some p → Q p
each_more Q xs y each last k p is =
    ⊎_elim (λ old. each k p old) (λ new. subst Q new.1 last) (get_pushed xs k y p is)

-- what holds of each item as it is seen holds of all that is seen
pub holds_all : {P Y : Type 0} (view : P → Y) (Q : Y → Type 0) (items : List P) (ys : List Y)
    → map view items ≡ ys → ((k : ℕ) (p : P) → slice_get items k ≡ Some p → Q (view p))
    → (row : ℕ) (y : Y) → slice_get ys row ≡ Some y → Q y
holds_all {P} {Y} view Q items ys is each row y at =
    by (slice_get items row) (sym (slice_get-map view items row) ∙ (ap (λ zs. slice_get zs row) is ∙ at)) (each row)
  where
    by : (o : Option P) → option_map view o ≡ Some y → ((p : P) → o ≡ Some p → Q (view p)) → Q y
    by None none h = absurd (none-some _ none)
    by (Some p) same h = subst Q (same_Some _ _ same) (h p refl)

-- what is listed of each item is that part of all that is seen
pub listed_alike : {P Y Z : Type 0} (view : P → Y) (part : Y → Z) (items : List P) (ys : List Y) (zs : List Z)
    → map view items ≡ ys → zs ≡ map (λ p. part (view p)) items → zs ≡ map part ys
listed_alike view part items ys zs all is = is ∙ (sym (map-map part view items) ∙ ap (map part) all)

-- so what holds of that part of each item seen holds of all that is listed
pub holds_listed : {P Y Z : Type 0} (view : P → Y) (part : Y → Z) (Q : Z → Type 0) (items : List P) (ys : List Y)
    (zs : List Z) → map view items ≡ ys → zs ≡ map (λ p. part (view p)) items
    → ((k : ℕ) (y : Y) → slice_get ys k ≡ Some y → Q (part y)) → (k : ℕ) (z : Z) → slice_get zs k ≡ Some z → Q z
holds_listed {P} {Y} {Z} view part Q items ys zs all is each k z at = by (slice_get ys k) (sym (slice_get-map part ys k)
    ∙ (ap (λ l. slice_get l k) (sym (listed_alike view part items ys zs all is)) ∙ at)) (each k)
  where
    by : (o : Option Y) → option_map part o ≡ Some z → ((y : Y) → o ≡ Some y → Q (part y)) → Q z
    by None none h = absurd (none-some _ none)
    by (Some y) same h = subst Q (same_Some _ _ same) (h y refl)

-- the last of an element and those that follow it
abbrev pub last_of : {X : Type 0} → X → List X → X
last_of x [] = x
last_of x (y ∷ ys) = last_of y ys

pub last_more : {X : Type 0} (x y : X) (ys : List X) → last_of x (ys ++ y ∷ []) ≡ y
last_more x y [] = refl
last_more x y (z ∷ ys) = last_more z y ys

-- the last element of a list, if it has one
abbrev pub last_in : {X : Type 0} → List X → Option X
last_in [] = None
last_in (x ∷ xs) = Some (last_of x xs)

pub last_pushed : {X : Type 0} (xs : List X) (x : X) → last_in (xs ++ x ∷ []) ≡ Some x
last_pushed [] x = refl
last_pushed (y ∷ xs) x = ap Some (last_more y x xs)

module _ {T : Type 0} (t : TreeState T) where
  -- the last of a node's ancestors is a root, and the node is below it
  pub last_root : (n : Node T) (ups : List (Node T)) → AreAncestors t n ups
      → parent_of t (last_of n ups) ≡ None
  last_root n [] all = all
  last_root n (up ∷ ups) all = last_root up ups all.1

  pub last_above : (n : Node T) (ups : List (Node T)) → AreAncestors t n ups
      → IsStepsBelow t (last_of n ups) (length ups) n
  last_above n [] all = refl
  last_above n (up ∷ ups) all = (up, all.0, last_above up ups all.1)

  -- a node that a list has is one of those there
  stands : (n : Node T) (xs : List (Node T)) → 0 < times n xs
      → (k : ℕ) × (x : Node T) × (slice_get xs k ≡ Some x) × (is_same x n ≡ true)
  stands n [] lt = absurd (omega (arith, lt))
  stands n (x ∷ xs) lt = ⊎_elim (λ same. (0, x, refl, same))
      (λ other. let rest = stands n xs (subst (λ k. 0 < k) (times_apart n x xs other) lt) in
      (suc rest.0, rest.1, rest.2, rest.3)) (cases_Bool (is_same x n))

  -- so what holds of the values that all of a list show holds of what the node shows
  pub shown_too : (P : T → Type 0) (n : Node T) (xs : List (Node T)) → 0 < times n xs
      → ((k : ℕ) (x : Node T) → slice_get xs k ≡ Some x → (v : T) → value_of t x ≡ Some v → P v)
      → (v : T) → value_of t n ≡ Some v → P v
  shown_too P n xs lt each v shown =
      let one = stands n xs lt in
      each one.0 one.1 one.2 v
      (same_id_sees t.state (pointer_in one.1) (pointer_in n) (is_id one.1 n one.3) ∙ shown)
