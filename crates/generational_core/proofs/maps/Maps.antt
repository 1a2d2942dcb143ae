-- Finite maps and sets read at a key, how many keys a map has, and when names and ids are the same.
use Rattle.std.specs.declared.cmp.{Ordering.Ordering}
use Rattle.std.proofs.lemmas.Bool.{cases_Bool, false_from_ne_true, or_cases, or_right}
use Rattle.std.proofs.lemmas.{Cmp.on_total, Cmp.then_total, List.length-map}
use Rattle.std.proofs.lemmas.{Map.Made.length-le_from_is_member}
use Rattle.std.proofs.lemmas.Map.Made.{length-intersection_difference}
use Rattle.std.proofs.Common.{not, ◌+◌}
use Rattle.std.specs.Prelude.{◌⊎◌, option_map, map as list_map, ◌&&◌, nat_eq, ◌↔◌}
use Rattle.std.specs.Cmp.{IsTotalOrder, nat_cmp_total, Equal-is, tied_itself, eq_by_cmp_equiv}
use Rattle.std.specs.{List.AllByRecursion, Ordering.eq_by_cmp, List.IsDistinct, Ordering.is_eq}
use Rattle.std.specs.{List.list_any, Ordering.nat_cmp}
use Rattle.generational_core.specs
use specs.Names.{Name, Names, NameMap, name_cmp, is_name, change, change_if}
use specs.{Boxes.has_same_id, Cells.Cell, Cells.refers_to, Cells.Cell.Ref, Conditions.IsNamed}
use specs.{State.is_named}
use specs.declared.boxes.GenerationalPointer.{GenerationalPointer}
use Rattle.generational_errors.specs.declared.error.Location.{Location}
use Rattle.std.proofs.Common.{◌≡◌, ◌≢◌, ◌≤◌, Bool, true, false, cond, ◌||◌, Option, None, Some, List, []}
use Rattle.std.proofs.Common.{◌∷◌, length, refl, sym, ap, ◌∙◌, inl, inr, ⊎_elim, arith}
use Rattle.std.specs.FinMap as map
use Rattle.std.specs.FinSet as set

-- names that compare alike are one
pub name_exact : map.IsAntisymmetric name_cmp
name_exact = grind arith

-- names are ordered
pub name_total : IsTotalOrder name_cmp
name_total = then_total (on_total (λ (s : Name). s.slot) nat_cmp_total)
    (on_total (λ (s : Name). s.generation) nat_cmp_total)

-- an order of keys that distinguishes them
pub record IsKeyOrder {K : Type 0} (R : K → K → Ordering) : Type 0 where
  pub total : IsTotalOrder R
  pub exact : map.IsAntisymmetric R

-- the orders of names, and of numbers
pub by_name : IsKeyOrder name_cmp
by_name = record { total = name_total; exact = name_exact }

pub by_number : IsKeyOrder nat_cmp
by_number = record { total = nat_cmp_total; exact = map.nat_cmp-IsAntisymmetric }

-- what holds if there is nothing, and if there is a value
pub by_option : {A B : Type 0} (x : Option A) → (x ≡ None → B) → ((a : A) → x ≡ Some a → B) → B
by_option x none some = grind arith

-- ---- keys of any kind

module _ {K : Type 0} {R : K → K → Ordering} (o : IsKeyOrder R) where
  -- keys that compare alike are one
  pub key_here : (k : K) → eq_by_cmp R k k ≡ true
  key_here k = ap is_eq (tied_itself o.total k)

  pub key_same : (j k : K) → eq_by_cmp R j k ≡ true → j ≡ k
  key_same j k h = o.exact j k ((Equal-is (R j k)).0 h)

  pub key_apart : (j k : K) → j ≢ k → eq_by_cmp R j k ≡ false
  key_apart j k ne = false_from_ne_true _ (λ h. ne (key_same j k h))

  -- two keys are one, or apart
  pub key_cases : (j k : K) → (j ≡ k) ⊎ (j ≢ k)
  key_cases j k = ⊎_elim (λ h. inl (key_same j k h)) (λ h. inr (λ e. cc (key_here k)))
      (cases_Bool (eq_by_cmp R j k))

  -- what holds if they are equal, and if they differ
  pub by_keys : {A : Type 0} (j k : K) → (j ≡ k → A) → (j ≢ k → A) → A
  by_keys j k same apart = ⊎_elim same apart (key_cases j k)

  module _ {X : Type 0} where
    pub get-insert_here : (m : map.FinMap R X) (k : K) (v : X) → map.get (map.insert m k v) k ≡ Some v
    get-insert_here m k v = rw (map.get-insert o.total m k v k, key_here k)

    pub get-insert_apart : (m : map.FinMap R X) (k : K) (v : X) (q : K)
        → q ≢ k → map.get (map.insert m k v) q ≡ map.get m q
    get-insert_apart m k v q ne = rw (map.get-insert o.total m k v q, key_apart q k ne)

    pub get-remove_here : (m : map.FinMap R X) (k : K) → map.get (map.remove m k) k ≡ None
    get-remove_here m k = rw (map.get-remove o.total m k k, key_here k)

    pub get-remove_apart : (m : map.FinMap R X) (k q : K)
        → q ≢ k → map.get (map.remove m k) q ≡ map.get m q
    get-remove_apart m k q ne = rw (map.get-remove o.total m k q, key_apart q k ne)

    pub get-keep : (m : map.FinMap R X) (p : K → Bool) (q : K)
        → map.get (map.retain_keys m p) q ≡ cond (p q) (map.get m q) None
    get-keep m p q = map.get-retain_keys m p q (λ x t. ap p (sym (o.exact q x t)))

    -- keys are removed in either order
    pub remove_each : (m : map.FinMap R X) (j k : K)
        → map.remove (map.remove m j) k ≡ map.remove (map.remove m k) j
    remove_each m j k =
        map.same_map o.total o.exact _ _ (λ q. grind (arith, map.get-remove {X = X} o.total))

    -- a key is kept with what it had, or removed
    pub keep_view : (m : map.FinMap R X) (p : K → Bool) (q : K)
        → ((map.get (map.retain_keys m p) q ≡ map.get m q) × (p q ≡ true))
        ⊎ ((map.get (map.retain_keys m p) q ≡ None) × (p q ≡ false))
    keep_view m p q = grind (arith, get-keep)

    pub get-changed_here : (m : map.FinMap R X) (k : K) (f : X → X) (x : X)
        → map.get m k ≡ Some x → map.get (change m k f) k ≡ Some (f x)
    unfolding change
    get-changed_here m k f x h = rw h (get-insert_here m k (f x))

    pub changed_there : (m : map.FinMap R X) (k : K) (f : X → X) (x : X)
        → map.get m k ≡ Some x → change m k f ≡ map.insert m k (f x)
    unfolding change
    changed_there m k f x h = ap (change_if m k f) h

    -- what a key has, put there again
    pub insert_there : (m : map.FinMap R X) (k : K) (x : X) → map.get m k ≡ Some x → map.insert m k x ≡ m
    insert_there m k x there =
        map.same_map o.total o.exact _ _ (λ q. grind (arith, map.get-insert {X = X} o.total, key_same))

    pub get-changed_none : (m : map.FinMap R X) (k : K) (f : X → X)
        → map.get m k ≡ None → change m k f ≡ m
    unfolding change
    get-changed_none m k f h = ap (change_if m k f) h

    pub get-changed_apart : (m : map.FinMap R X) (k : K) (f : X → X) (q : K)
        → q ≢ k → map.get (change m k f) q ≡ map.get m q
    unfolding change
    get-changed_apart m k f q ne = grind (arith, get-insert_apart m k)

    -- the one key that is changed, if it has anything
    pub changed_view : (m : map.FinMap R X) (k : K) (f : X → X) (q : K)
        → (map.get (change m k f) q ≡ map.get m q)
        ⊎ ((q ≡ k) × (x : X) × (map.get m q ≡ Some x) × (map.get (change m k f) q ≡ Some (f x)))
    unfolding change
    changed_view m k f q = grind (arith, get-insert_here, get-insert_apart, key_cases q k)

  -- what is in a set with another key
  pub contains-insert_here : (s : set.FinSet R) (k : K) → set.contains (set.insert s k) k ≡ true
  contains-insert_here s k = rw (set.contains-insert o.total s k k, key_here k)

  pub contains-insert_old : (s : set.FinSet R) (k q : K)
      → set.contains s q ≡ true → set.contains (set.insert s k) q ≡ true
  contains-insert_old s k q h = rw (set.contains-insert o.total s k q) (or_right _ _ h)

  pub contains-insert_apart : (s : set.FinSet R) (k q : K)
      → q ≢ k → set.contains (set.insert s k) q ≡ set.contains s q
  contains-insert_apart s k q ne = rw (set.contains-insert o.total s k q, key_apart q k ne)

-- ---- names

-- a name is the same as itself
pub name_here : (n : Name) → is_name n n ≡ true
unfolding is_name
name_here n = key_here by_name n

pub name_same : (a b : Name) → is_name a b ≡ true → a ≡ b
unfolding is_name
name_same a b h = key_same by_name a b h

pub name_apart : (a b : Name) → a ≢ b → is_name a b ≡ false
unfolding is_name
name_apart a b h = key_apart by_name a b h

-- two names are one, or apart
pub name_cases : (a b : Name) → (a ≡ b) ⊎ (a ≢ b)
name_cases a b = key_cases by_name a b

-- maps and sets under names, by the test of names
pub get-insert_name : {X : Type 0} (m : NameMap X) (k : Name) (v : X) (q : Name)
    → map.get (map.insert m k v) q ≡ cond (is_name q k) (Some v) (map.get m q)
unfolding is_name
get-insert_name m k v q = map.get-insert name_total m k v q

pub get-changed_name : {X : Type 0} (m : NameMap X) (k : Name) (f : X → X) (q : Name)
    → map.get (change m k f) q ≡ cond (is_name q k) (option_map f (map.get m q)) (map.get m q)
unfolding is_name change
get-changed_name m k f q = grind (arith, map.get-insert name_total m k, key_same by_name q k)

pub contains-insert_name : (s : Names) (k q : Name)
    → set.contains (set.insert s k) q ≡ (is_name q k || set.contains s q)
unfolding is_name
contains-insert_name s k q = set.contains-insert name_total s k q

-- ---- how many keys a map has

-- the keys of a finite map are distinct
module _ {K X : Type 0} (R : K → K → Ordering) where
  below_apart : (x : K) (es : List (K × X)) → map.Entries.below_all R x es ≡ true
      → AllByRecursion (λ y. eq_by_cmp R x y ≡ false) (list_map (λ (e : K × X). e.0) es)
  below_apart x [] h = tt
  below_apart x (e ∷ es) h = grind (arith, below_apart x es)

  sorted_apart : (es : List (K × X))
      → map.is_sorted R es ≡ true → IsDistinct (eq_by_cmp R) (list_map (λ (e : K × X). e.0) es)
  unfolding IsDistinct
  sorted_apart [] h = tt
  sorted_apart (e ∷ es) h = grind (arith, below_apart, sorted_apart es)

  -- the keys of a map are distinct
  pub keys_apart : (m : map.FinMap R X) → IsDistinct (eq_by_cmp R) (map.keys m)
  keys_apart m = sorted_apart (map.entries m) (grind (arith, map.entries_sorted m))

  -- and as many as the map says
  pub len_keys : (m : map.FinMap R X) → map.len m ≡ length (map.keys m)
  len_keys m = map.len-entries m ∙ sym (length-map (map.entries m) (λ e. e.0))

module _ {J K : Type 0} {Q : J → J → Ordering} {R : K → K → Ordering}
    (p : IsKeyOrder Q) (o : IsKeyOrder R) (f : J → K) where
  mapped_there : (j : J) (js : List J) → list_any (eq_by_cmp Q j) js ≡ true
      → list_any (eq_by_cmp R (f j)) (list_map f js) ≡ true
  mapped_there j [] h = h
  mapped_there j (i ∷ js) h = grind (arith, key_here o, key_same p j i, mapped_there j js)

  -- a map each of whose keys comes from a key of another is no larger
  pub len_from : {X Y : Type 0} (m : map.FinMap R X) (n : map.FinMap Q Y) (g : K → J)
      → ((k : K) → map.contains_key m k ≡ true → (map.contains_key n (g k) ≡ true) × (f (g k) ≡ k))
      → map.len m ≤ map.len n
  len_from m n g h =
      let le = length-le_from_is_member (eq_by_cmp_equiv o.total) (map.keys m)
      (list_map f (map.keys n)) (keys_apart R m)
      (λ k e. grind (arith, h k, map.contains_key-keys, mapped_there (g k) (map.keys n))) in
      omega (arith, le, len_keys R m, len_keys Q n, length-map (map.keys n) f)

module _ {K X : Type 0} {R : K → K → Ordering} (o : IsKeyOrder R) where
  -- what passes is kept
  pub kept_key : (m : map.FinMap R X) (p : K → Bool) (q : K)
      → map.contains_key m q ≡ true → p q ≡ true → map.contains_key (map.retain_keys m p) q ≡ true
  kept_key m p q h t = rw (get-keep o m p q, t) h

  -- a map whose keys are another's is no larger
  pub len_within : {Y : Type 0} (m : map.FinMap R X) (n : map.FinMap R Y)
      → ((k : K) → map.contains_key m k ≡ true → map.contains_key n k ≡ true) → map.len m ≤ map.len n
  len_within m n h = len_from o o (λ k. k) m n (λ k. k) (λ k e. (h k e, refl))

  -- a map's keys are as many as those of two that share them
  pub len_parts : (m l r : map.FinMap R X)
      → ((k : K) → map.contains_key l k ≡ true → map.contains_key m k ≡ true)
      → ((k : K) → map.contains_key r k ≡ (map.contains_key m k && not (map.contains_key l k)))
      → map.len l + map.len r ≡ map.len m
  len_parts m l r within rest =
      let parts = length-intersection_difference (eq_by_cmp_equiv o.total) (map.keys m) (map.keys l)
      (map.keys l) (map.keys r) (keys_apart R m) (keys_apart R l) (keys_apart R r)
      (λ q. grind (arith, within q, map.contains_key-keys))
      (λ q. grind (arith, rest q, map.contains_key-keys)) in
      omega (arith, parts, len_keys {X = X} R)

-- two names are the same if both their numbers are
pub name_test : (a b : Name) → is_name a b ≡ (nat_eq a.slot b.slot && nat_eq a.generation b.generation)
unfolding is_name
name_test a b = grind arith

-- boxes have the same id exactly if the ids are one
pub same_ids : (a b : GenerationalPointer) → (has_same_id a b ≡ true) ↔ (a.id ≡ b.id)
same_ids a b = grind arith

pub same_itself : (a : GenerationalPointer) → has_same_id a a ≡ true
same_itself a = (same_ids a a).1 refl

pub same_turned : (a b : GenerationalPointer) → has_same_id a b ≡ has_same_id b a
same_turned a b = grind arith

-- some element of a list passes
one_passes : {A : Type 0} (p : A → Bool) (xs : List A) → list_any p xs ≡ true → (x : A) × (p x ≡ true)
one_passes p [] h = cc
one_passes p (x ∷ xs) h = ⊎_elim (λ e. (x, e)) (λ e. one_passes p xs e) (or_cases _ _ h)

-- an element that passes both
pub passes_both : {A : Type 0} (p q : A → Bool) → ((x : A) → q x ≡ true → p x ≡ true)
    → (xs : List A) → list_any q xs ≡ true → list_any p xs ≡ true
passes_both p q f [] h = h
passes_both p q f (x ∷ xs) h = grind (arith, f x, passes_both p q f xs)

module _ {T : Type 0} where
  -- what passes the test of a Ref is one
  pub is_ref : (m : Name) (c : Option (Cell T))
      → refers_to m c ≡ true → (l : Location) × (c ≡ Some (Ref m l))
  is_ref m (Some (Ref k l)) h = (l, cc (name_same m k h))
  is_ref m _ h = cc

  -- the test gives a Ref, and a Ref passes it
  pub named_gives : (cells : NameMap (Cell T)) (m : Name) → is_named cells m ≡ true → IsNamed cells m
  unfolding is_named
  named_gives cells m h = grind (arith, one_passes, is_ref)

  pub named_from : (cells : NameMap (Cell T)) (m : Name) → IsNamed cells m → is_named cells m ≡ true
  unfolding is_named
  named_from cells m h =
      passes_both (λ n. refers_to m (map.get cells n)) (eq_by_cmp name_cmp h.0)
      (grind (arith, key_same by_name h.0, name_here m)) (map.keys cells)
      (grind (arith, map.contains_key-keys cells h.0))
