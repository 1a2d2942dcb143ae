-- What holds of the bounds of blocks of rows, and of expiries that skip blocks by them.
use Rattle.session_table.proofs.Keeping.Common.{ap, arith, Bool, by_option, inl, inr, is_young, keys_of, length, List}
use Rattle.session_table.proofs.Keeping.Common.{live, live_row, LiveSession, lookup, map, none-some, Option}
use Rattle.session_table.proofs.Keeping.Common.{option_map, position, refl, same_Some, Session, set_value, slice_get, slice_get-map}
use Rattle.session_table.proofs.Keeping.Common.{Some, subst, suc, swap_remove, swap_remove_entry, sym, SessionsState}
use Rattle.session_table.proofs.Keeping.Common.{swap_remove_entry-found, true, zero, ℕ, [], ⊎_elim, ◌++◌, ◌+◌, ◌-◌, ◌<◌, ◌∙◌}
use Rattle.session_table.proofs.Keeping.Common.{◌∷◌, ◌≡◌, ◌≢◌, ◌≤◌, ◌⊎◌, cases_Bool, cases_eq, IfSome}
use Rattle.session_table.proofs.Keeping.{AreCalled, called_young, sheds_young, Sheds}
use Rattle.session_table.specs.Bounds.{AreLowerBounds, AreLowerBoundsBut, bound_at}
use Rattle.std.proofs.lemmas.Bool.{cases_lt}
use Rattle.std.proofs.lemmas.Cmp.{by_ranked, ranked}
use Rattle.std.specs.Ordering.{nat_cmp, ord_min}
use Rattle.generational_laws.proofs.callers.{get_pushed, get_set_apart, get_take, take_within}
use Rattle.std.specs.Prelude.{◌/◌, ◌%◌, unwrap_or}

module _ {I K T : Type 0} {bounds : List ℕ} where
  -- no rows
  pub below_none : AreLowerBounds {I = I} {K = K} {T = T} bounds []
  below_none = record { low = λ row e is. absurd (none-some e is) }

  module _ {rows : List (I × Session K T)} (below : AreLowerBounds bounds rows) where
    -- bounds that are lower still
    pub below_lower : {less : List ℕ} → ((at : ℕ) → bound_at less at ≤ bound_at bounds at) → AreLowerBounds less rows
    below_lower lower = record { low = λ row e is. omega (arith, lower row, below.low row e is) }

    -- a row that is added
    pub below_pushed : (k : I) (w : Session K T) → bound_at bounds (length rows) ≤ w.used_at → AreLowerBounds bounds (rows ++ (k, w) ∷ [])
    below_pushed k w last = record {
      low = λ row e is. ⊎_elim (λ old. below.low row e old)
          (λ new. subst (λ x. bound_at bounds row ≤ x.1.used_at) new.1
          (subst (λ at. bound_at bounds at ≤ w.used_at) (sym new.0) last)) (get_pushed rows row (k, w) e is);
    }

    -- a row that is removed: the last one takes its place
    pub below_swapped : (i : ℕ) (d : I × Session K T) → AreLowerBoundsBut i bounds (swap_remove rows i d)
    below_swapped i d = record {
      low = λ row e apart is. below.low row e (sym (get_set_apart rows i row _ apart)
          ∙ (sym (get_take _ (length rows - 1) row (take_within _ (length rows - 1) row e is)) ∙ is));
    }

pub below_removed : {I K T : Type 0} {bounds : List ℕ} {rows : List (I × Session K T)} → AreLowerBounds bounds rows → (test : I → Bool) (i : ℕ)
    → position test (keys_of rows) ≡ Some i → AreLowerBoundsBut i bounds (swap_remove_entry test rows)
below_removed {rows = []} below test i at = record { low = λ row e apart is. absurd (none-some e is) }
below_removed {bounds = bounds} {rows = x ∷ rows} below test i at =
    subst (AreLowerBoundsBut i bounds) (sym (swap_remove_entry-found test (x ∷ rows) i x at)) (below_swapped below i x)

-- the row of an id that gets another session: it is there, and each other is the same
set_at : {I R : Type 0} (test : I → Bool) (rows : List (I × R)) (w : R) (i : ℕ) (e : I × R)
    → slice_get (set_value test rows w) i ≡ Some e
    → (slice_get rows i ≡ Some e) ⊎ ((position test (keys_of (set_value test rows w)) ≡ Some i) × (e.1 ≡ w))
set_at test [] w i e is = absurd (none-some e is)
set_at test (x ∷ rows) w zero e is = ⊎_elim
    (λ yes. inr (grind (arith, yes), grind (arith, yes, is))) (λ no. inl (grind (arith, no, is))) (cases_Bool (test x.0))
set_at test (x ∷ rows) w (suc i) e is = ⊎_elim (λ yes. inl (grind (arith, yes, is)))
    (λ no. ⊎_elim (λ old. inl old) (λ new. inr (grind (arith, no, new.0), new.1))
    (set_at test rows w i e (grind (arith, no, is)))) (cases_Bool (test x.0))

-- a row was one whose session is the same, or it is the row that gets another
set_from : {I R : Type 0} (test : I → Bool) (rows : List (I × R)) (s w : R) → lookup test rows ≡ Some s
    → (i : ℕ) (e : I × R) → slice_get (set_value test rows w) i ≡ Some e
    → (r : I × R) × (slice_get rows i ≡ Some r) × ((e.1 ≡ r.1) ⊎ ((r.1 ≡ s) × (e.1 ≡ w)))
set_from test [] s w found i e is = absurd (none-some s found)
set_from test (x ∷ rows) s w found zero e is = (
  x,
  refl,
  ⊎_elim
      (λ yes. inr (grind (arith, yes, found), grind (arith, yes, is))) (λ no. inl (grind (arith, no, is))) (cases_Bool (test x.0)),
)
set_from test (x ∷ rows) s w found (suc i) e is = ⊎_elim (λ yes. (e, grind (arith, yes, is), inl refl))
    (λ no. set_from test rows s w (grind (arith, no, found)) i e (grind (arith, no, is))) (cases_Bool (test x.0))

module _ {I K T : Type 0} {bounds : List ℕ} {rows : List (I × Session K T)} (below : AreLowerBounds bounds rows)
    (test : I → Bool) (w : Session K T) where
  -- a session whose last use is as late as before, or later
  pub below_raised : {s : Session K T} → lookup test rows ≡ Some s → s.used_at ≤ w.used_at → AreLowerBounds bounds (set_value test rows w)
  below_raised {s} found later = record { low = each }
    where
      each : (row : ℕ) (e : I × Session K T) → slice_get (set_value test rows w) row ≡ Some e → bound_at bounds row ≤ e.1.used_at
      each row e is =
          let (r, was, how) = set_from test rows s w found row e is in
          let low = below.low row r was in
          ⊎_elim (λ same. subst (λ u. bound_at bounds row ≤ u) (sym (ap (λ x. x.used_at) same)) low)
          (λ set. let old = ap (λ x. x.used_at) set.0 in let new = ap (λ x. x.used_at) set.1 in
          omega (arith, low, old, new, later)) how

  -- one whose last use is earlier, once its block's bound was lowered
  pub below_set : {less : List ℕ} (place : Option ℕ) → place ≡ position test (keys_of (set_value test rows w))
      → ((at : ℕ) → bound_at less at ≤ bound_at bounds at) → IfSome place (λ p. bound_at less p ≤ w.used_at)
      → AreLowerBounds less (set_value test rows w)
  below_set {less} place is lower here = record { low = each }
    where
      each : (row : ℕ) (e : I × Session K T) → slice_get (set_value test rows w) row ≡ Some e → bound_at less row ≤ e.1.used_at
      each row e at = ⊎_elim
          (λ old. omega (arith, lower row, below.low row e old))
          (λ new. let low = subst (λ o. IfSome o (λ p. bound_at less p ≤ w.used_at)) (is ∙ new.0) here in
          subst (λ u. bound_at less row ≤ u) (sym (ap (λ x. x.used_at) new.1)) low)
          (set_at test rows w row e at)

-- ---- sessions that are young

-- one that was used at a time or later
pub young_later : {K T : Type 0} (s : LiveSession K T) (time : ℕ) → time ≤ s.used_at → is_young time s ≡ true
young_later s time le = grind (arith, le)

-- the sessions of a block that were last used at a time or later
pub rows_young : {I K T : Type 0} (rows : List (I × Session K T)) (row time least : ℕ)
    → ((place : ℕ) (e : I × Session K T) → place / 64 ≡ row / 64 → slice_get rows place ≡ Some e → least ≤ e.1.used_at)
    → time ≤ least → (place : ℕ) (e : I × LiveSession K T) → place / 64 ≡ row / 64
    → slice_get (map live_row rows) place ≡ Some e → is_young time e.1 ≡ true
rows_young rows row time least low le place e same is = by_option (slice_get rows place)
    (λ none. absurd (none-some e (sym (slice_get-map live_row rows place ∙ ap (option_map live_row) none) ∙ is)))
    (λ r some.
    let one = same_Some (live_row r) e (sym (slice_get-map live_row rows place ∙ ap (option_map live_row) some) ∙ is) in
    subst (λ x. is_young time x.1 ≡ true) one (young_later (live r.1) time (omega (arith, le, low place r same some))))

-- those of a block whose bound isn't before a time
pub block_young : {I K T : Type 0} {bounds : List ℕ} (rows : List (I × Session K T)) → AreLowerBounds bounds rows → (row time : ℕ)
    → time ≤ bound_at bounds row → (place : ℕ) (e : I × LiveSession K T) → place / 64 ≡ row / 64
    → slice_get (map live_row rows) place ≡ Some e → is_young time e.1 ≡ true
block_young {I} {K} {T} {bounds} rows below row time le = rows_young rows row time (bound_at bounds row) low le
  where
    low : (place : ℕ) (e : I × Session K T) → place / 64 ≡ row / 64 → slice_get rows place ≡ Some e
        → bound_at bounds row ≤ e.1.used_at
    low place e same is = subst (λ n. unwrap_or (slice_get bounds n) 0 ≤ e.1.used_at) same (below.low place e is)

-- a bound that is set to the least last use of its block
pub below_least : {I K T : Type 0} {bounds next : List ℕ} {rows : List (I × Session K T)} → AreLowerBounds bounds rows → (row least : ℕ)
    → ((at : ℕ) → at / 64 ≡ row / 64 → bound_at next at ≤ least)
    → ((at : ℕ) → at / 64 ≢ row / 64 → bound_at next at ≡ bound_at bounds at)
    → ((place : ℕ) (e : I × Session K T) → place / 64 ≡ row / 64 → slice_get rows place ≡ Some e → least ≤ e.1.used_at)
    → AreLowerBounds next rows
below_least {bounds = bounds} {next = next} {rows = rows} below row least here others low = record {
  low = λ at e is. ⊎_elim
      (λ same. omega (arith, here at same, low at e same is))
      (λ apart. omega (arith, others at apart, below.low at e is)) (cases_eq (at / 64) (row / 64));
}

-- ---- an expiry that goes on past young sessions

module _ {I K T : Type 0} {eq : I → I → Bool} {time : ℕ} {place : ℕ} {a b : SessionsState I K T} where
  pub sheds_until : (n : ℕ) → Sheds eq time place a b → place + n ≤ length b.sessions
      → ((i : ℕ) (e : I × LiveSession K T) → place ≤ i → i < place + n → slice_get b.sessions i ≡ Some e → is_young time e.1 ≡ true)
      → Sheds eq time (place + n) a b
  sheds_until zero s all young = subst (λ p. Sheds eq time p a b) (omega arith) s
  sheds_until (suc n) s all young = subst (λ p. Sheds eq time p a b) (omega arith)
      (sheds_young (sheds_until n s (omega (arith, all)) (λ i e from to. young i e from (omega (arith, to)))) (omega (arith, all))
      (λ e. young (place + n) e (omega arith) (omega arith)))

module _ {I K T F : Type 0} {time : ℕ} {place : ℕ} {a b : SessionsState I K T} (step : F → I → F → Type 0) (first : F) {now : F} where
  pub called_until : (n : ℕ) → AreCalled time step first place a b now → place + n ≤ length b.sessions
      → ((i : ℕ) (e : I × LiveSession K T) → place ≤ i → i < place + n → slice_get b.sessions i ≡ Some e → is_young time e.1 ≡ true)
      → AreCalled time step first (place + n) a b now
  called_until zero so all young = subst (λ p. AreCalled time step first p a b now) (omega arith) so
  called_until (suc n) so all young = subst (λ p. AreCalled time step first p a b now) (omega arith)
      (called_young time step first (called_until n so (omega (arith, all)) (λ i e from to. young i e from (omega (arith, to))))
      (omega (arith, all)) (λ e. young (place + n) e (omega arith) (omega arith)))

-- the sessions before a place are young, and those of the next block too
pub young_on : {I K T : Type 0} (time : ℕ) {from place next : ℕ} {a b : SessionsState I K T} → b ≡ a → place % 64 ≡ 0 → next ≤ place + 64
    → ((i : ℕ) (e : I × LiveSession K T) → from ≤ i → i < place → slice_get a.sessions i ≡ Some e → is_young time e.1 ≡ true)
    → ((i : ℕ) (e : I × LiveSession K T) → i / 64 ≡ place / 64 → slice_get b.sessions i ≡ Some e → is_young time e.1 ≡ true)
    → (i : ℕ) (e : I × LiveSession K T) → from ≤ i → i < next → slice_get b.sessions i ≡ Some e → is_young time e.1 ≡ true
young_on time {place = place} same first near before block i e after within is = ⊎_elim
    (λ lt. before i e after lt (subst (λ t. slice_get t.sessions i ≡ Some e) same is))
    (λ ge. block i e (omega (arith, first, near, within, ge)) is) (cases_lt i place)

module _ {I K T : Type 0} (time : ℕ) {place next : ℕ} {b c : SessionsState I K T} (same : c ≡ b) (from : place ≤ next)
    (within : next ≤ length c.sessions) (young : (i : ℕ) (e : I × LiveSession K T) → place ≤ i → i < next
    → slice_get c.sessions i ≡ Some e → is_young time e.1 ≡ true) where
  meets : place + (next - place) ≡ next
  meets = omega arith

  reached : place + (next - place) ≤ length c.sessions
  reached = omega arith

  each : (i : ℕ) (e : I × LiveSession K T) → place ≤ i → i < place + (next - place) → slice_get c.sessions i ≡ Some e
      → is_young time e.1 ≡ true
  each i e to lt = young i e to (omega (arith, meets))

  pub sheds_on : {eq : I → I → Bool} {a : SessionsState I K T} → Sheds eq time place a b → Sheds eq time next a c
  sheds_on {eq} {a} s = subst (λ p. Sheds eq time p a c) meets
      (sheds_until (next - place) (subst (λ t. Sheds eq time place a t) (sym same) s) reached each)

  pub called_on : {F : Type 0} (step : F → I → F → Type 0) (first : F) {now : F} {a : SessionsState I K T} → AreCalled time step first place a b now
      → AreCalled time step first next a c now
  called_on step first {now} {a} so = subst (λ p. AreCalled time step first p a c now) meets
      (called_until step first (next - place) (subst (λ t. AreCalled time step first place a t now) (sym same) so) reached each)

-- the lesser of two numbers
pub lesser : (a b : ℕ) → (ord_min nat_cmp a b ≤ a) × (ord_min nat_cmp a b ≤ b)
lesser a b = by_ranked (b < a) (b ≡ a) (a < b) (nat_cmp b a) (ranked b a _ refl)
    (λ e lt. rw e (omega (arith, lt), omega arith)) (λ e same. rw e (omega arith, omega (arith, same)))
    (λ e lt. rw e (omega arith, omega (arith, lt)))
