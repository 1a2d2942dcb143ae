-- Lists, queues and tables.
pub mod Common
use Rattle.std.proofs.lemmas.Bool.{or_right}
use Rattle.store_parts.specs.declared.queue.Seat.{Seat}
use Rattle.std.specs.FinMap as map
use Rattle.std.specs.FinSet as set
unfoldable pub use Common.*

-- ==== lists after a write or a push, key counts, and lists of free slots

pub number_test : (a b : ℕ) → eq_by_cmp nat_cmp a b ≡ nat_eq a b
number_test a b = grind (arith, nat_tests)

pub cond_same : {A : Type 0} (b : Bool) (x : A) → cond b x x ≡ x
cond_same b x = grind arith

-- one if a test is passed
abbrev pub bit : Bool → ℕ
bit b = cond b 1 0

module _ {A : Type 0} where
  -- whether there is something that passes
  abbrev pub passes : (A → Bool) → Option A → Bool
  passes p None = false
  passes p (Some x) = p x

  -- ys is xs with x at index i, which may be the one after the last
  pub record IsWritten (xs ys : List A) (i : ℕ) (x : A) : Type 0 where
    pub at : (k : ℕ) → slice_get ys k ≡ cond (nat_eq k i) (Some x) (slice_get xs k)
    pub count : (p : A → Bool)
        → how_many p ys + bit (passes p (slice_get xs i)) ≡ how_many p xs + bit (p x)

  -- the same behind an element more
  written_behind : {xs ys : List A} {i : ℕ} {x : A} (z : A) → IsWritten xs ys i x
      → IsWritten (z ∷ xs) (z ∷ ys) (suc i) x
  written_behind z rest = record {
    at = λ k. grind (arith, nat_tests, rest.at);
    count = λ p. omega (arith, rest.count p);
  }

  pub set_written : (xs : List A) (i : ℕ) (x y : A) → slice_get xs i ≡ Some y
      → IsWritten xs (slice_set xs i x) i x
  set_written [] i x y h = absurd cc
  set_written (z ∷ zs) zero x y h =
      record { at = λ k. grind (arith, nat_tests); count = λ p. omega arith }
  set_written (z ∷ zs) (suc i) x y h = written_behind z (set_written zs i x y h)

  pub push_written : (xs : List A) (x : A) → IsWritten xs (xs ++ x ∷ []) (length xs) x
  push_written [] x =
      record { at = λ k. grind (arith, nat_tests); count = λ p. omega arith }
  push_written (z ∷ zs) x = written_behind z (push_written zs x)

  pub set-own : (xs : List A) (i : ℕ) (x : A) → slice_get xs i ≡ Some x → slice_set xs i x ≡ xs
  set-own [] i x h = refl
  set-own (z ∷ zs) zero x h = cc
  set-own (z ∷ zs) (suc i) x h = rw (set-own zs i x h)

  pub count_all : (xs : List A) → how_many (λ x. true) xs ≡ length xs
  count_all [] = refl
  count_all (x ∷ xs) = omega (arith, count_all xs)

  -- what passes is counted, and what is counted is somewhere
  pub many_some : (p : A → Bool) (xs : List A) (k : ℕ) (x : A)
      → slice_get xs k ≡ Some x → p x ≡ true → 0 < how_many p xs
  many_some p [] k x at passed = absurd cc
  many_some p (y ∷ ys) zero x at passed = grind arith
  many_some p (y ∷ ys) (suc k) x at passed = omega (arith, many_some p ys k x at passed)

  pub some_of_many : (p : A → Bool) (xs : List A) → 0 < how_many p xs
      → (k : ℕ) × (x : A) × (slice_get xs k ≡ Some x) × (p x ≡ true)
  some_of_many p [] many = absurd (omega arith)
  some_of_many p (y ∷ ys) many = elim (cases_Bool (p y)) [
    | inl passed ↦ (0, y, refl, passed)
    | inr e ↦ let it = some_of_many p ys (omega (arith, rw e at many)) in
        (suc it.0, it.1, it.2, it.3)
  ]

  -- no more pass than there are
  pub many_within : (p : A → Bool) (xs : List A) → how_many p xs ≤ length xs
  many_within p [] = omega arith
  many_within p (x ∷ xs) = grind (arith, many_within p xs)

  -- fewer pass than there are, if one doesn't
  pub fewer_within : (p : A → Bool) (xs : List A) (i : ℕ) (x : A)
      → slice_get xs i ≡ Some x → p x ≡ false → how_many p xs < length xs
  fewer_within p [] i x there fails = absurd cc
  fewer_within p (y ∷ xs) zero x there fails = let most = many_within p xs in grind arith
  fewer_within p (y ∷ xs) (suc i) x there fails =
      grind (arith, fewer_within p xs i x there fails)

-- ---- how many keys a map has

len_step : {X : Type 0} (m : map.FinMap nat_cmp X) (i n : ℕ) (b : Bool) → map.contains_key m i ≡ b
    → map.len (map.remove m i) ≡ n → map.len m ≡ bit b + n
len_step {X} m i n b here rest =
    let e = rw here at (map.len-remove nat_cmp_total m i) in
    let some : b ≡ true → map.len m ≢ 0 =
    λ has z. cc (map.empty_of_len m z, map.get-empty {X = X} nat_cmp i) in
    grind arith

-- a map whose keys are the indices, from the i-th on, of what passes, has as many keys as pass
pub len_passing : {A X : Type 0} (p : A → Bool) (i : ℕ) (xs : List A) (m : map.FinMap nat_cmp X)
    → ((k : ℕ) → k < i → map.contains_key m k ≡ false)
    → ((k : ℕ) → map.contains_key m (i + k) ≡ passes p (slice_get xs k))
    → map.len m ≡ how_many p xs
len_passing p i [] m low at =
    ap map.len (map.same_map nat_cmp_total map.nat_cmp-IsAntisymmetric m map.empty (λ k.
    rw (map.get-empty nat_cmp k) (grind (arith, low k, at (k - i))))) ∙ map.len-empty nat_cmp _
len_passing p i (x ∷ xs) m low at =
    len_step m i (how_many p xs) (p x) (ap (map.contains_key m) (omega arith) ∙ at 0)
    (len_passing p (i + 1) xs (map.remove m i)
    (λ k h. rw (map.get-remove nat_cmp_total m i k, number_test k i)
    (grind (arith, nat_tests, low k)))
    (λ k. rw (map.get-remove nat_cmp_total m i (i + 1 + k), number_test (i + 1 + k) i)
    (grind (arith, nat_tests, at (suc k)))))

-- ---- sets of free slots

pub contains-insert_at : (s : set.FinSet nat_cmp) (i k : ℕ)
    → set.contains (set.insert s i) k ≡ cond (nat_eq k i) true (set.contains s k)
contains-insert_at s i k =
    rw (set.contains-insert nat_cmp_total s i k, number_test k i) (grind arith)

pub contains-remove_at : (s : set.FinSet nat_cmp) (i k : ℕ)
    → set.contains (set.remove s i) k ≡ cond (nat_eq k i) false (set.contains s k)
contains-remove_at s i k =
    rw (set.contains-remove nat_cmp_total s i k, number_test k i) (grind arith)

-- what is true of one slot, if it is so already
pub contains_own : (s : set.FinSet nat_cmp) (i : ℕ) {b : Bool} → set.contains s i ≡ b → (k : ℕ)
    → set.contains s k ≡ cond (nat_eq k i) b (set.contains s k)
contains_own s i own k = grind (arith, nat_tests)

-- a slot that is taken and put back is free as before
module _ (pool : set.FinSet nat_cmp) (i : ℕ) (member : set.contains pool i ≡ true) where
  pub put_back : set.insert (set.remove pool i) i ≡ pool
  put_back = set.same_set nat_cmp_total nat_cmp-IsAntisymmetric _ _ (λ k.
      rw (contains-insert_at, contains-remove_at) (grind (arith, nat_tests)))

abbrev pub holds : List ℕ → ℕ → Bool
holds slots slot = list_any (nat_eq slot) slots

abbrev pub members : List ℕ → set.FinSet nat_cmp
members slots = set.from_list slots

pub members-holds : (xs : List ℕ) (q : ℕ) → set.contains (members xs) q ≡ holds xs q
members-holds xs q = set.contains-from_list_nat xs q ∙ turn xs
  where
    turn : (ys : List ℕ) → list_any (λ y. nat_eq y q) ys ≡ holds ys q
    turn [] = refl
    turn (y ∷ ys) = λ i. nat_eq_equiv.symm y q i || turn ys i

absent_all : (x : ℕ) (xs : List ℕ) → holds xs x ≡ false
    → AllByRecursion (λ y. nat_eq x y ≡ false) xs
absent_all x [] h = tt
absent_all x (y ∷ ys) h =
    let parts = or_parts (nat_eq x y) (holds ys x) h in (parts.0, absent_all x ys parts.1)

module _ {xs : List ℕ} {rooms slot : ℕ} where
  pub pool_put : IsPool xs rooms → slot < rooms → set.contains (members xs) slot ≡ false
      → IsPool (slot ∷ xs) rooms
  pool_put p room absent = record {
    distinct = IsDistinct-cons nat_eq slot xs
        (absent_all slot xs (sym (members-holds xs slot) ∙ absent)) p.distinct;
    below = λ q h. grind (arith, nat_tests, p.below q);
  }

  pub pool_take : IsPool (slot ∷ xs) rooms → IsPool xs rooms
  pool_take p = record {
    distinct = IsDistinct-tail nat_eq slot xs p.distinct;
    below = λ q h. p.below q (or_right (nat_eq q slot) _ h);
  }

  pub head_absent : IsPool (slot ∷ xs) rooms → set.contains (members xs) slot ≡ false
  head_absent p = members-holds xs slot ∙ list_any_none _ xs
      (All-from_recursion _ xs (IsDistinct-head nat_eq slot xs p.distinct))

  pub members_take : IsPool (slot ∷ xs) rooms
      → members xs ≡ set.remove (members (slot ∷ xs)) slot
  members_take p = let absent = head_absent p in
      set.same_set nat_cmp_total nat_cmp-IsAntisymmetric _ _ (λ k.
      rw (contains-remove_at, contains-insert_at) (grind (arith, nat_tests)))

pub pool_length : {xs : List ℕ} {rooms : ℕ} → IsPool xs rooms → length xs ≤ rooms
pool_length {xs} {rooms} p = length-le_from_distinct_below xs rooms p.distinct p.below

-- the slots of a pool are counted by its list
pub pool_count : (xs : List ℕ) {rooms : ℕ} → IsPool xs rooms → set.len (members xs) ≡ length xs
pool_count [] p = set.len-empty nat_cmp
pool_count (x ∷ xs) p =
    rw (set.len-insert nat_cmp_total (members xs) x, head_absent p)
    (omega (arith, pool_count xs (pool_take p)))

pub pool_empty : (rooms : ℕ) → IsPool [] rooms
unfolding IsDistinct
pool_empty rooms = record { distinct = tt; below = λ q h. absurd (false≢true h) }

-- the same with another slot at the end
pub pool_push : {xs : List ℕ} {rooms slot : ℕ} → IsPool xs rooms → slot < rooms
    → set.contains (members xs) slot ≡ false → IsPool (xs ++ slot ∷ []) rooms
pool_push {xs} {rooms} {slot} p room absent = record {
  distinct = IsDistinct-push nat_eq_equiv xs slot p.distinct
      (sym (members-holds xs slot) ∙ absent);
  below = λ q h.
      let either = rw (list_any-append (nat_eq q) xs (slot ∷ [])) at h in
      grind (arith, nat_tests, p.below q);
}

-- ==== slots to which links lead, one after the other

-- the first of them has a link, which leads to the others
pub first_within : (links : List ℕ) (first n : ℕ) → 0 < n
    → IsPool (slot_chain links first n) (length links) → first < length links
first_within links first zero some p = absurd (omega arith)
first_within links first (suc n) some p = p.below first (rw (eq-eqb first first refl) refl)

-- if there are others, what is read of its link is their first
pub chain_read : (links : List ℕ) (first n x : ℕ) → 0 < n
    → IsPool (slot_chain links first n) (length links) → (1 < n → x ≡ get_or links first x)
    → slot_chain links first n ≡ first ∷ slot_chain links x (n - 1)
chain_read links first zero x some p at = absurd (omega arith)
chain_read links first (suc zero) x some p at = refl
chain_read links first (suc (suc n)) x some p at =
    let e : suc (suc n) - 1 ≡ suc n = omega arith in
    let read = at (omega arith) in
    rw (e, get_or_read links first x (first_within links first (suc (suc n)) some p) read 0) refl

-- if the links of its slots are the same, it is the same
chain_same : (links others : List ℕ) (first n : ℕ)
    → ((q : ℕ) → holds (slot_chain links first n) q ≡ true → get_or others q 0 ≡ get_or links q 0)
    → slot_chain others first n ≡ slot_chain links first n
chain_same links others first zero same = refl
chain_same links others first (suc n) same =
    let rest = chain_same links others (get_or links first 0) n
    (λ q there. same q (or_right (nat_eq q first) _ there)) in
    rw (same first (rw (eq-eqb first first refl) refl), rest)

-- more links at the end
pub chain_grown : (links more : List ℕ) (first n : ℕ) → IsPool (slot_chain links first n) (length links)
    → slot_chain (links ++ more) first n ≡ slot_chain links first n
chain_grown links more first n p =
    chain_same links _ first n (λ q there. get_or_append_left links _ 0 q (p.below q there))

last_there : (x : ℕ) (xs : List ℕ) → holds (x ∷ xs) (last_slot_of x xs) ≡ true
last_there x [] = rw (eq-eqb x x refl) refl
last_there x (y ∷ ys) = or_right (nat_eq (last_slot_of y ys) x) _ (last_there y ys)

pub last_pushed : (x : ℕ) (xs : List ℕ) (y : ℕ) → last_slot_of x (xs ++ y ∷ []) ≡ y
last_pushed x [] y = refl
last_pushed x (z ∷ zs) y = last_pushed z zs y

-- a slot behind the last one, whose link leads to it
pub chain_put_last : (links : List ℕ) (first n last slot : ℕ) → 0 < n
    → IsPool (slot_chain links first n) (length links) → last_slot_of last (slot_chain links first n) ≡ last
    → slot_chain (slice_set links last slot) first (n + 1) ≡ slot_chain links first n ++ slot ∷ []
chain_put_last links first zero last slot some p ends = absurd (omega arith)
chain_put_last links first (suc zero) last slot some p ends =
    rw (sym ends) (ap (λ x. first ∷ x ∷ []) (get_or-set_same links first slot 0 (first_within links first 1 some p)))
chain_put_last links first (suc (suc n)) last slot some p ends =
    let next = get_or links first 0 in
    let other = get_or-set_other links last first slot 0 (λ e. cc (
      last_there next (slot_chain links (get_or links next 0) n),
      members-holds (slot_chain links next (suc n)) first,
      head_absent p,
    )) in
    let rest = chain_put_last links next (suc n) last slot (omega arith) (pool_take p) ends in grind (arith, other, rest)

-- a slot before the first one, to which its link leads, unless there was none
pub chain_put : (links after : List ℕ) (first n slot : ℕ) → slot < length links
    → set.contains (members (slot_chain links first n)) slot ≡ false
    → (0 < n → after ≡ slice_set links slot first)
    → slot_chain after slot (n + 1) ≡ slot ∷ slot_chain links first n
chain_put links after first zero slot within absent linked = refl
chain_put links after first (suc n) slot within absent linked =
    let apart = chain_same links (slice_set links slot first) first (suc n)
    (λ q there. get_or-set_other
    links slot q first 0 (λ e. cc (members-holds (slot_chain links first (suc n)) slot))) in
    grind (arith, linked, get_or-set_same links slot first 0 within)

-- so many slots as are there have a link each
pub chain_length : (links : List ℕ) (first n : ℕ) → length (slot_chain links first n) ≡ n
chain_length links first zero = refl
chain_length links first (suc n) = ap suc (chain_length links (get_or links first 0) n)

-- if another slot is in it, there is one more link
pub chain_room : (links : List ℕ) (first n slot : ℕ) → IsPool (slot_chain links first n) (length links)
    → slot < length links → set.contains (members (slot_chain links first n)) slot ≡ false
    → n < length links
chain_room links first n slot p within absent =
    omega (arith, pool_length (pool_put p within absent), chain_length links first n)

-- the last of them has a link
pub last_within : (links : List ℕ) (first n last : ℕ) → 0 < n
    → IsPool (slot_chain links first n) (length links) → last_slot_of last (slot_chain links first n) ≡ last
    → last < length links
last_within links first zero last some p ends = absurd (omega arith)
last_within links first (suc n) last some p ends =
    let there = last_there first (slot_chain links (get_or links first 0) n) in
    p.below last (sym (ap (holds (slot_chain links first (suc n))) ends) ∙ there)

-- links that were added, if the allocation succeeded, change no slot of the list
pub resized : (ok : Bool) (n : ℕ) (links more after : List ℕ) (first count : ℕ)
    → after ≡ (if ok then take n links ++ more else links) → length links ≤ n
    → IsPool (slot_chain links first count) (length links)
    → IsPool (slot_chain after first count) (length after)
    × (slot_chain after first count ≡ slot_chain links first count)
resized true n links more after first count is few p =
    rw (is, take_all n links few, chain_grown links more first count p) (
      record {
        distinct = p.distinct;
        below = λ slot there. omega (arith, p.below slot there, length-append links more);
      },
      refl,
    )
resized false n links more after first count is few p = rw is (p, refl)

-- nor are there too many of them
pub resized_few : (ok : Bool) (n links after most : ℕ) → after ≡ (if ok then n else links)
    → n ≤ most → links ≤ most → after ≤ most
resized_few ok n links after most is less few = grind arith

pub last_taken : (x : ℕ) (xs : List ℕ) → last_slot_of x xs ≡ x → last_slot_of x (drop 1 xs) ≡ x
last_taken x (y ∷ z ∷ zs) ends = ends
last_taken x xs ends = refl

-- ==== the table of standing borrows: its free indexes, and what a call leaves of its invariant

-- an empty set has nothing to take out
pub remove_none : (s : set.FinSet nat_cmp) (i : ℕ) → s ≡ set.empty → set.remove s i ≡ s
remove_none s i none = set.same_set nat_cmp_total set.nat_cmp-IsAntisymmetric _ _ (λ k.
    rw (none, contains-remove_at set.empty i k, set.contains-empty nat_cmp k) (grind arith))

pub table_empty : (capacity : ℕ) → IsTable [] set.empty 0 capacity
table_empty capacity = record {
  within = λ i member. absurd (cc (set.contains-empty nat_cmp i));
  roomy = omega arith;
  fits = omega arith;
}

module _ {lists : List (List Borrow)} {free : set.FinSet nat_cmp} {rooms capacity : ℕ}
    (t : IsTable lists free rooms capacity) where
  -- other lists, as many
  pub table_same : {lists' : List (List Borrow)} → length lists' ≡ length lists
      → IsTable lists' free rooms capacity
  table_same same = record {
    within = λ i member. omega (arith, t.within i member);
    roomy = omega arith;
    fits = t.fits;
  }

  module _ (i : ℕ) where
    -- an index that was freed is in use again
    pub table_opened : (list : List Borrow)
        → IsTable (slice_set lists i list) (set.remove free i) rooms capacity
    table_opened list = let long = length-set lists i list in record {
      within = λ k member.
          let left = rw contains-remove_at at member in grind (arith, t.within k);
      roomy = omega arith;
      fits = t.fits;
    }

    -- an index is freed
    pub table_closed : i < length lists → IsTable lists (set.insert free i) rooms capacity
    table_closed low = record {
      within = λ k member.
          let there = rw contains-insert_at at member in grind (arith, nat_tests, t.within k);
      roomy = t.roomy;
      fits = t.fits;
    }

-- ==== seats of borrows whose tickets ascend: what a binary search finds in them, and what is there
-- after a push, after a release, and after dead seats are removed

abbrev has : ℕ → Borrow → Bool
has t b = nat_eq b.ticket t

abbrev without : ℕ → List Borrow → List Borrow
without t = filter (λ b. not (has t b))

-- a dead seat
abbrev dead : Borrow → Seat
dead b = record { borrow = b; stands = false }

-- a seat that lives
abbrev live : Borrow → Seat
live b = record { borrow = b; stands = true }

tail_ascends : (p : Seat) (ps : List Seat) → TicketsAscend (p ∷ ps) → TicketsAscend ps
tail_ascends p ps up i j d before within = up (suc i) (suc j) d (omega arith) (omega arith)

first_below : (p : Seat) (ps : List Seat) → TicketsAscend (p ∷ ps) → (k : ℕ) (d : Seat)
    → k < length ps → p.borrow.ticket < (get_or ps k d).borrow.ticket
first_below p ps up k d within = up 0 (suc k) d (omega arith) (omega arith)

-- no ticket is t
abbrev IsApart : ℕ → List Seat → Type 0
IsApart t ps = (k : ℕ) (d : Seat) → k < length ps → (get_or ps k d).borrow.ticket ≢ t

-- behind a ticket's seat there is no other
behind_apart : (p : Seat) (ps : List Seat) → TicketsAscend (p ∷ ps) → IsApart p.borrow.ticket ps
behind_apart p ps up k d within = let more = first_below p ps up k d within in λ e. omega arith

none_apart : (t : ℕ) (ps : List Seat) → IsApart t ps → list_any (has t) (standing_in ps) ≡ false
none_apart t [] apart = refl
none_apart t (p ∷ ps) apart =
    let rest = none_apart t ps (λ k d within. apart (suc k) d (omega arith)) in
    grind (arith, nat_tests, apart 0 p)

-- if no borrow has the ticket, all are left
pub none_left : (t : ℕ) (bs : List Borrow) → list_any (has t) bs ≡ false → without t bs ≡ bs
none_left t [] none = refl
none_left t (b ∷ bs) none = grind (arith, none_left t bs)

all_left : (t : ℕ) (ps : List Seat) → IsApart t ps → without t (standing_in ps) ≡ standing_in ps
all_left t ps apart = none_left t _ (none_apart t ps apart)

-- a ticket's borrow is active exactly if its seat is live
pub stands_there : (t : ℕ) (ps : List Seat) (i : ℕ) (d : Seat) → TicketsAscend ps → i < length ps
    → HasTicketAt t ps i → list_any (has t) (standing_in ps) ≡ (get_or ps i d).stands
stands_there t [] i d up within own = absurd (omega arith)
stands_there t (p ∷ ps) zero d up within own =
    grind (arith, nat_tests, own p, none_apart t ps (rw (own p) at (behind_apart p ps up)))
stands_there t (p ∷ ps) (suc i) d up within own =
    let rest = stands_there t ps i d (tail_ascends p ps up) in
    grind (arith, nat_tests, own p, rest, first_below p ps up i p)

-- what a binary search by ticket returns, if each call of its closure returns a ticket
module _ {F : Type 0} {g : Mut F (Bor Seat × Unit {0}) ℕ} {f : F} (t : ℕ) (ps : List Seat)
    (up : TicketsAscend ps)
    (calls : (f : F) (p : Bor Seat × Unit {0}) (r : ℕ) (f' : F) → Called g f p r f'
    → r ≡ p.0.now.borrow.ticket) where
  pub search_finds : (i n : ℕ) → i < n → n ≡ length ps
      → ((key : Seat → ℕ) → ComputesKey g key f
      → IsBinarySearchResult (λ p. nat_cmp (key p) t) ps (Ok i))
      → (i < length ps) × HasTicketAt t ps i
  search_finds i n within long position = (
    omega arith,
    λ d. ranked _ t _ (sym (position (λ p. p.borrow.ticket) (answers_always g _ f calls) d)),
  )

  pub search_misses : (i : ℕ)
      → ((key : Seat → ℕ) → ComputesKey g key f
      → IsBinarySearchResult (λ p. nat_cmp (key p) t) ps (Err i))
      → list_any (has t) (standing_in ps) ≡ false
  search_misses i position = none_apart t ps (λ k d within.
      let rises : IsNonDecreasingBy (λ p. ordering_index (nat_cmp p.borrow.ticket t)) ps =
      λ i j d le within. grind (arith, nat_tests, up i j d) in
      let parts = position (λ p. p.borrow.ticket) (answers_always g _ f calls) rises in
      ⊎_elim (λ before. let less = ranked _ t _ (sym (parts.0 k d (omega arith) before)) in
      λ e. omega (arith, less, e))
      (λ after. let more = ranked _ t _ (sym (parts.1 k d after within)) in
      λ e. omega (arith, more, e)) (cases_lt k i))

-- a seat that dies takes its ticket's borrow away, and no other
module _ (t : ℕ) (b : Borrow) where
  dies : (ps : List Seat) (i : ℕ) → TicketsAscend ps → IsOwnSeat t ps i
      → (standing_in (slice_set ps i (dead b)) ≡ without t (standing_in ps))
      × (length (standing_in (slice_set ps i (dead b))) + 1 ≡ length (standing_in ps))
  dies [] i up own = absurd (omega (arith, own.0))
  dies (p ∷ ps) zero up own =
      let all = all_left t ps (rw (own.1 p) at (behind_apart p ps up)) in
      grind (arith, nat_tests, own.1 p, own.2 p)
  dies (p ∷ ps) (suc i) up own =
      let rest = dies ps i (tail_ascends p ps up) (omega (arith, own.0), own.1, λ d within. own.2 d (omega arith)) in
      grind (arith, nat_tests, own.0, own.1 p, first_below p ps up i p)

-- another seat at the end
pub standing_pushed : (ps : List Seat) (p : Seat)
    → standing_in (ps ++ p ∷ []) ≡ standing_in ps ++ standing_in (p ∷ [])
standing_pushed [] p = refl
standing_pushed (q ∷ ps) p = grind (arith, standing_pushed ps p)

-- of seats without dead ones
abbrev kept : List Seat → List Seat
kept = filter (λ p. p.stands)

pub standing_kept : (ps : List Seat) → standing_in (kept ps) ≡ standing_in ps
standing_kept [] = refl
standing_kept (p ∷ ps) = let rest = standing_kept ps in grind arith

all_stand : (ps : List Seat) (i : ℕ) → StandsAt i (kept ps)
all_stand ps i d within = All-get_or (λ (p : Seat). p.stands ≡ true) (kept ps) i d within
    (filter_passes (λ p. p.stands) ps)

pub standing_within : (ps : List Seat) → length (standing_in ps) ≤ length ps
standing_within [] = omega arith
standing_within (p ∷ ps) = let rest = standing_within ps in grind arith

-- the last seat is live, so a ticket above all active ones is above all
above_last : (ps : List Seat) (n : ℕ) → IsQueue ps n → (t : ℕ) → AreTicketsBelow t (standing_in ps)
    → (k : ℕ) (d : Seat) → k < length ps → (get_or ps k d).borrow.ticket < t
above_last ps n q t below k d within =
    let m = length ps - 1 in
    let low : m < length ps = omega arith in
    let last = get_or ps m d in
    let known = stands_there last.borrow.ticket ps m d q.ascend low
    (λ e. ap (λ p. p.borrow.ticket) (get_or_default ps m e d low)) in
    let top = below last.borrow.ticket (known ∙ q.last d low) in
    ⊎_elim (λ (before : k < m). omega (arith, q.ascend k m d before low, top))
    (λ (behind : m ≤ k). let same : k ≡ m = omega arith in rw same top) (cases_lt k m)

-- no seat
pub none_queue : IsQueue [] 0
none_queue = record {
  ascend = λ i j d before within. absurd (omega arith);
  count = refl;
  first = λ d within. absurd (omega arith);
  last = λ d within. absurd (omega arith);
  half = omega arith;
}

-- a borrow begins
pub pushed : (ps : List Seat) (n : ℕ) (b : Borrow) → IsQueue ps n
    → AreTicketsBelow b.ticket (standing_in ps) → IsQueue (ps ++ live b ∷ []) (n + 1)
pushed ps n b q below = record {
  ascend = all_pairs_push (λ p r. p.borrow.ticket < r.borrow.ticket) ps (live b) q.ascend
      (above_last ps n q b.ticket below);
  count = rw standing_pushed (omega (arith, q.count, length-append (standing_in ps) (b ∷ [])));
  first = first ps q;
  last = λ d within. let end : length (ps ++ live b ∷ []) - 1 ≡ length ps =
      omega (arith, length-append ps (live b ∷ [])) in rw (end, get_or-append_seam) refl;
  half = omega (arith, q.half, length-append ps (live b ∷ []));
}
  where
    first : (ps : List Seat) → IsQueue ps n → StandsAt 0 (ps ++ live b ∷ [])
    first [] q d within = refl
    first (p ∷ ps) q d within = q.first d (omega arith)

-- two borrows begin
pub two_queue : (a b : Borrow) → AreTicketsBelow b.ticket (a ∷ []) → IsQueue (live a ∷ live b ∷ []) 2
two_queue a b below =
    pushed (live a ∷ []) 1 b (pushed [] 0 a none_queue (λ t h. absurd (false≢true h))) below

-- the dead seats are removed
pub kept_queue : (ps : List Seat) (n : ℕ) → TicketsAscend ps → n ≡ length (standing_in ps)
    → IsQueue (kept ps) n
kept_queue ps n up count = record {
  ascend = AllPairs-filter (λ p r. p.borrow.ticket < r.borrow.ticket) (λ p. p.stands) ps up;
  count = rw (standing_kept ps) count;
  first = all_stand ps 0;
  last = all_stand ps (length (kept ps) - 1);
  half = omega (arith, length-map (kept ps) (λ p. p.borrow), count);
}

-- room is made
pub roomy : (ps qs : List Seat) (n : ℕ) → IsQueue ps n → AreSeatsKept ps qs
    → IsQueue qs n × (standing_in qs ≡ standing_in ps)
roomy ps qs n q = ⊎_elim
    (λ same. rw same (q, refl))
    (λ fewer. rw fewer (kept_queue ps n q.ascend q.count, standing_kept ps))

-- a dead seat is removed at the end
pub popped : (before after : List Seat) (end : Option Seat) (p : Seat)
    → before ≡ after ++ option_to_list end → end ≡ Some p → p.stands ≡ false
    → TicketsAscend before → StandsAt 0 before
    → (standing_in after ≡ standing_in before) × TicketsAscend after × StandsAt 0 after
popped before after end p items some off up first =
    let parts = rw some at items in
    let ascend = rw parts at up in
    let begins = rw parts at first in
    let front = get_or_append_left after (p ∷ []) in
    let long = length-append after (p ∷ []) in (
      sym (ap (λ ps. standing_in ps) parts ∙ standing_pushed after p ∙ rw off
          (append-nil (standing_in after))),
      λ i j d before within. rw (← front d i (omega arith), ← front d j within)
          (ascend i j d before (omega arith)),
      λ d within. rw (← front d 0 within) (begins d (omega arith)),
    )

-- what is left of a queue when a borrow ends
pub record Left (ps qs : List Seat) (n t : ℕ) : Type 0 where
  pub standing : standing_in qs ≡ without t (standing_in ps)
  pub count : n - 1 ≡ length (standing_in qs)
  pub others : length (standing_in ps) ≤ length (standing_in qs) + 1
  pub within : n - 1 ≤ length qs

pub left : (ps qs : List Seat) (n i t : ℕ) (b : Borrow) → IsQueue ps n → IsOwnSeat t ps i
    → standing_in qs ≡ standing_in (slice_set ps i (dead b)) → Left ps qs n t
left ps qs n i t b q own same =
    let dead = dies t b ps i q.ascend own in
    let fewer = ap (λ bs. length bs + 1) same ∙ dead.1 in record {
      standing = same ∙ dead.0;
      count = omega (arith, q.count, fewer);
      others = omega (arith, fewer);
      within = omega (arith, q.count, fewer, standing_within qs);
    }

-- one borrow is the first
pub only_first : (bs : List Borrow) (b : Borrow) → length bs ≡ 1 → slice_get bs 0 ≡ Some b
    → b ∷ [] ≡ bs
only_first (a ∷ []) b one first = cc
only_first _ b one first = absurd (omega arith)
