-- Entries among rows: which row's session has one.
use Rattle.session_table.proofs.Keeping.Common.{among, ap, arith, Bool, cases_Bool, Entry, RowNames, held_in, held_of, is_some, AreSessionsKept}
use Rattle.session_table.proofs.Keeping.Common.{IsSound, keeps, length, List, Location, lookup, Name, name_here, name_of}
use Rattle.session_table.proofs.Keeping.Common.{name_same, entry_names, None, Option, option_map, place_from_lookup, pointer_in, refl}
use Rattle.session_table.proofs.Keeping.Common.{same_Some, seen_store, Session, ShowsSomething, slice_get, slice_get_within, Some, State}
use Rattle.session_table.proofs.Keeping.Common.{subst, suc, sym, table_of, true, true≢false, zero, ℕ, [], ⊎_elim, ◌+◌, ◌<◌, ◌∙◌, ◌∷◌}
use Rattle.session_table.proofs.Keeping.Common.{is_name, ◌≡◌}
use Rattle.session_table.proofs.Keeping.{session_of, store_at}
use Rattle.handles.specs.Handles.{is_same, IsSame}
use Rattle.session_table.specs.Homes.{IsInRow, IsEntryAt}
use Rattle.std.proofs.Common.{rules}
use Rattle.std.proofs.lemmas.Bool.{cases_lt}
use Rattle.std.specs.Prelude.{IsTrue, ◌↔◌}

-- what holds of no number below another, nor of that one, holds of none up to it
pub up_to : (P : ℕ → Type 0) (n : ℕ) → ((i : ℕ) → i < n → P i → ⊥) → (P n → ⊥) → (i : ℕ) → i < n + 1 → P i → ⊥
up_to P n below here i lt p = ⊎_elim (λ less. below i less p)
    (λ more. here (subst P (omega (arith, lt, more)) p)) (cases_lt i n)

-- entries of one value have one name
named : {T : Type 0} (a b : Entry T) → IsSame a b → name_of (pointer_in a) ≡ name_of (pointer_in b)
named a b same = grind (arith, same)

module _ {K T : Type 0} where
  -- an entry at an index is named
  pub named_at : (es : List (K × Entry T)) (i : ℕ) (p : K × Entry T) (e : Entry T) → slice_get es i ≡ Some p
      → IsSame p.1 e → among (entry_names es) (name_of (pointer_in e)) ≡ true
  named_at [] i p e at same = cc
  named_at (q ∷ es) zero p e at same =
      let one = ap (λ (x : K × Entry T). name_of (pointer_in x.1)) (same_Some q p at) ∙ named p.1 e same in
      grind (arith, name_here (name_of (pointer_in e)), one)
  named_at (q ∷ es) (suc i) p e at same = grind (arith, named_at es i p e at same)

  -- and a name is that of an entry at an index
  pub place_named : (es : List (K × Entry T)) (n : Name) → among (entry_names es) n ≡ true
      → (i : ℕ) × (p : K × Entry T) × (slice_get es i ≡ Some p) × (name_of (pointer_in p.1) ≡ n)
  place_named [] n is = absurd (true≢false (sym is))
  place_named (q ∷ es) n is = ⊎_elim
      (λ here. (0, q, refl, sym (name_same n (name_of (pointer_in q.1)) here)))
      (λ other. let rest = place_named es n (grind (arith, other, is)) in (suc rest.0, rest.1, rest.2, rest.3))
      (cases_Bool (is_name n (name_of (pointer_in q.1))))

-- entries that are equal are of one value
pub same_answer : {T : Type 0} (answer : Bool) (a b : Entry T) → answer ≡ is_same a b → (IsTrue answer) ↔ IsSame a b
same_answer answer a b is = rw is (search rules)

module _ {I K T : Type 0} (rows : List (I × Session K T)) (row index : ℕ) (e : Entry T) (x : I × Session K T)
    (there : slice_get rows row ≡ Some x) (at : IsEntryAt rows row index e) where
  -- the entry that is at an index of a row
  found_at : slice_get x.1.entries.entries index ≡ Some at.1
  found_at = subst (λ (y : I × Session K T). slice_get y.1.entries.entries index ≡ Some at.1)
      (same_Some at.0 x (sym at.2 ∙ there)) at.3

  pub at_index : (p : K × Entry T) → slice_get x.1.entries.entries index ≡ Some p → IsSame p.1 e
  at_index p has = subst (λ (q : K × Entry T). IsSame q.1 e) (same_Some at.1 p (sym found_at ∙ has)) at.4

  pub index_within : index < length x.1.entries.entries
  index_within = slice_get_within x.1.entries.entries index at.1 found_at

  pub index_named : among (entry_names x.1.entries.entries) (name_of (pointer_in e)) ≡ true
  index_named = named_at x.1.entries.entries index at.1 e found_at at.4

-- an id keeps what its row's session has
pub keeps_among : {I K T : Type 0} (eq : I → I → Bool) (S : State T) (rows : List (I × Session K T)) (sites : List Location)
    (row : ℕ) (e : Entry T) (k : I) (s : Session K T) → lookup (eq k) rows ≡ Some s → slice_get rows row ≡ Some (k, s)
    → IsInRow rows row e → keeps eq (table_of S rows sites) k e ≡ true
keeps_among eq S rows sites row e k s found there at =
    rw (session_of (eq k) rows found) (index_named rows row at.0 e (k, s) there at.1)

-- an entry that shows a value is among the rows
module _ {I K T : Type 0} (eq : I → I → Bool) (S : State T) (rows : List (I × Session K T)) (e : Entry T)
    (sound : IsSound S) (kept : AreSessionsKept S eq (held_in eq rows)) (shows : ShowsSomething S (pointer_in e)) where
  held : (i : I) × (h : RowNames) × (held_in eq rows i ≡ Some h) × (among h.names (name_of (pointer_in e)) ≡ true)
  held = kept.kept (pointer_in e) shows

  row_found : (o : Option (Session K T)) → lookup (eq held.0) rows ≡ o → (row : ℕ) × IsInRow rows row e
  row_found None none = absurd (true≢false (sym (ap is_some (sym (ap (option_map held_of) none) ∙ held.2))))
  row_found (Some s) some =
      let lists = same_Some (held_of s) held.1 (sym (ap (option_map held_of) some) ∙ held.2) in
      let place = place_from_lookup (eq held.0) rows s some in
      let at = place_named s.entries.entries (name_of (pointer_in e))
      (ap (λ (h : RowNames). among h.names (name_of (pointer_in e))) lists ∙ held.3) in
      let own = store_at (λ n. n ≡ S.number) s.entries.entries at.0 at.1
      (kept.own held.0 (held_of s) (ap (option_map held_of) some)) at.2 in
      let mine = seen_store S (pointer_in e) sound shows in
      (place.0, (at.0, ((place.1, s), at.1, place.2, at.2, grind (arith, at.3, own, mine))))

  pub live_among : (row : ℕ) × IsInRow rows row e
  live_among = row_found (lookup (eq held.0) rows) refl
