-- Sessions of rows.
use Rattle.std.proofs.Common.{ap, arith, Bool, false, List, None, Option, refl, Some, subst, sym, true, ℕ}
use Rattle.std.proofs.Common.{append_assoc, [], ⊎_elim, ◌++◌, ◌||◌, ◌∙◌, ◌∷◌, ◌≡◌}
use Rattle.std.proofs.lemmas.Bool.{cases_Bool, eqb-true, true≢false}
use Rattle.std.proofs.lemmas.List.{append-nil, map-append}
use Rattle.std.proofs.lemmas.List.Folds.{list_any-append}
use Rattle.std.specs.Map.{lookup}
use Rattle.std.specs.Prelude.{is_some, nat_eq, option_map}
use Rattle.generational_core.proofs.maps.Maps.{name_here, name_same}
use Rattle.generational_core.specs.Boxes.{name_of}
use Rattle.generational_core.specs.Names.{among, is_name}
use Rattle.generational_core.specs.Seeing.{value_in}
use Rattle.generational_core.specs.State.{IsGiven}
use Rattle.handles.specs.Handles.{pointer_in}
use Rattle.session_table.specs.Sessions.{Entry, LiveSession, begun, entry_names_in, entry_names, with_entry}
use Rattle.session_table.specs.Tables.{SessionsState, WasPut, session_in, shown_in}
use Rattle.example_saving.specs.Logins.{AllPut, seen_at, seen_in, values_of_entries, with_entry_value, with_values}

module _ {I K T : Type 0} (t u : SessionsState I K T) where
  -- what entries show stays, if the table shows the same of each
  pub values_stay : (entries : List (K × Entry T))
      → ((e : Entry T) → among (entry_names entries) (name_of (pointer_in e)) ≡ true → shown_in u e ≡ shown_in t e)
      → values_of_entries u entries ≡ values_of_entries t entries
  values_stay [] stay = refl
  values_stay (x ∷ rest) stay =
      ap (λ o. with_entry_value x.0 o (values_of_entries u rest)) (stay x.1 (grind (arith, name_here (name_of (pointer_in x.1)))))
      ∙ ap (with_entry_value x.0 (shown_in t x.1)) (values_stay rest (λ e is. stay e (grind (arith, is))))

module _ {I K T : Type 0} (t : SessionsState I K T) where
  -- values of two lists
  pub values_append : (xs ys : List (K × Entry T)) → values_of_entries t (xs ++ ys) ≡ values_of_entries t xs ++ values_of_entries t ys
  values_append [] ys = refl
  values_append (x ∷ xs) ys = ap (with_entry_value x.0 (shown_in t x.1)) (values_append xs ys)
      ∙ before (shown_in t x.1) (values_of_entries t xs) (values_of_entries t ys)
    where
      before : (o : Option T) (vs ws : List (K × T)) → with_entry_value x.0 o (vs ++ ws) ≡ with_entry_value x.0 o vs ++ ws
      before None vs ws = refl
      before (Some v) vs ws = refl

  -- one more entry
  pub values_pushed : (xs : List (K × Entry T)) (x : K × Entry T) (o : Option T) → shown_in t x.1 ≡ o
      → values_of_entries t (xs ++ x ∷ []) ≡ values_of_entries t xs ++ with_entry_value x.0 o []
  values_pushed xs x o is = values_append xs (x ∷ []) ∙ ap (λ found. values_of_entries t xs ++ with_entry_value x.0 found []) is

-- a put of an entry
module _ {K T : Type 0} (t u : SessionsState ℕ K T) (e : Entry T) (id : ℕ) (k : K) (v : T)
    (kept : session_in nat_eq u id ≡ option_map (with_entry k e) (session_in nat_eq t id))
    (others : (o : ℕ) → nat_eq id o ≡ false → session_in nat_eq u o ≡ session_in nat_eq t o)
    (left : (f : Entry T) → WasPut t f → shown_in u f ≡ shown_in t f)
    (own : AllPut nat_eq t) where
  -- the sessions of before show the same values
  stays : (o : ℕ) (s : LiveSession K T) → session_in nat_eq t o ≡ Some s → values_of_entries u s.entries ≡ values_of_entries t s.entries
  stays o s is = values_stay t u s.entries (λ f has. left f (own o f
      (ap (λ found. among (entry_names_in found) (name_of (pointer_in f))) is ∙ has)))

  pub other_seen : (o : ℕ) → nat_eq id o ≡ false → seen_at nat_eq u o ≡ seen_at nat_eq t o
  other_seen o apart = ap (option_map (seen_in u)) (others o apart) ∙ by (session_in nat_eq t o) refl
    where
      by : (found : Option (LiveSession K T)) → session_in nat_eq t o ≡ found
          → option_map (seen_in u) (session_in nat_eq t o) ≡ seen_at nat_eq t o
      by None none = rw none refl
      by (Some s) some = rw some (ap (λ vs. Some (s.used_at, vs)) (stays o s some))

  pub put_seen : shown_in u e ≡ Some v
      → seen_at nat_eq u id ≡ option_map (with_values ((k, v) ∷ [])) (seen_at nat_eq t id)
  put_seen shown = ap (option_map (seen_in u)) kept ∙ by (session_in nat_eq t id) refl
    where
      by : (found : Option (LiveSession K T)) → session_in nat_eq t id ≡ found
          → option_map (seen_in u) (option_map (with_entry k e) (session_in nat_eq t id))
          ≡ option_map (with_values ((k, v) ∷ [])) (seen_at nat_eq t id)
      by None none = rw none refl
      by (Some s) some = rw some (ap (λ vs. Some (s.used_at, vs))
          (values_append u s.entries ((k, e) ∷ [])
          ∙ (ap (λ vs. vs ++ values_of_entries u ((k, e) ∷ [])) (stays id s some)
          ∙ ap (λ o. values_of_entries t s.entries ++ with_entry_value k o []) shown)))

  pub own_after : ((f : Entry T) → WasPut t f → WasPut u f) → WasPut u e → AllPut nat_eq u
  own_after put given o f has = ⊎_elim here other (cases_Bool (nat_eq id o))
    where
      other : nat_eq id o ≡ false → WasPut u f
      other apart = put f (own o f (ap (λ found. among (entry_names_in found) (name_of (pointer_in f))) (sym (others o apart)) ∙ has))

      more : (s : LiveSession K T) → session_in nat_eq t id ≡ Some s
          → among (entry_names_in (option_map (with_entry k e) (session_in nat_eq t id))) (name_of (pointer_in f)) ≡ true
          → (among (entry_names s.entries) (name_of (pointer_in f))
          || among (name_of (pointer_in e) ∷ []) (name_of (pointer_in f))) ≡ true
      more s some is =
          sym (list_any-append (is_name (name_of (pointer_in f))) (entry_names s.entries) (name_of (pointer_in e) ∷ []))
          ∙ (ap (λ ns. among ns (name_of (pointer_in f)))
          (sym (map-append (λ (x : K × Entry T). name_of (pointer_in x.1)) s.entries ((k, e) ∷ [])))
          ∙ (ap (λ found. among (entry_names_in (option_map (with_entry k e) found)) (name_of (pointer_in f))) (sym some) ∙ is))

      by : (found : Option (LiveSession K T)) → session_in nat_eq t id ≡ found
          → among (entry_names_in (option_map (with_entry k e) (session_in nat_eq t id))) (name_of (pointer_in f)) ≡ true
          → WasPut u f
      by None none is = absurd (grind (arith, none, is))
      by (Some s) some is = ⊎_elim
          (λ old. put f (own id f (ap (λ found. among (entry_names_in found) (name_of (pointer_in f))) some ∙ old)))
          (λ none. subst (λ n. IsGiven u.state n)
          (sym (name_same (name_of (pointer_in f)) (name_of (pointer_in e)) (grind (arith, none, more s some is)))) given)
          (cases_Bool (among (entry_names s.entries) (name_of (pointer_in f))))

      here : nat_eq id o ≡ true → WasPut u f
      here same = by (session_in nat_eq t id) refl
          (ap (λ found. among (entry_names_in found) (name_of (pointer_in f))) (sym kept) ∙ grind (arith, same, has))

-- a login of an id
module _ {K T : Type 0} (t u : SessionsState ℕ K T) (id now : ℕ) (state : u.state ≡ t.state)
    (opened : session_in nat_eq u id ≡ Some (begun now))
    (others : (o : ℕ) → nat_eq id o ≡ false → session_in nat_eq u o ≡ session_in nat_eq t o) where
  pub begun_seen : seen_at nat_eq u id ≡ Some (now, [])
  begun_seen = ap (option_map (seen_in u)) opened

  pub other_begun : (o : ℕ) → nat_eq id o ≡ false → seen_at nat_eq u o ≡ seen_at nat_eq t o
  other_begun o apart = ap (option_map (seen_in u)) (others o apart) ∙ by (session_in nat_eq t o)
    where
      by : (found : Option (LiveSession K T)) → option_map (seen_in u) found ≡ option_map (seen_in t) found
      by None = refl
      by (Some s) = ap (λ vs. Some (s.used_at, vs))
          (values_stay t u s.entries (λ e _. ap (λ S. value_in S (pointer_in e)) state))

  pub own_begun : AllPut nat_eq t → AllPut nat_eq u
  own_begun own o e has = ⊎_elim
      (λ same. absurd (true≢false (sym has ∙ (ap (λ n. among (entry_names_in (session_in nat_eq u n)) (name_of (pointer_in e)))
      (sym (eqb-true id o same)) ∙ ap (λ found. among (entry_names_in found) (name_of (pointer_in e))) opened))))
      (λ apart. subst (λ S. IsGiven S (name_of (pointer_in e))) (sym state) (own o e
      (ap (λ found. among (entry_names_in found) (name_of (pointer_in e))) (sym (others o apart)) ∙ has)))
      (cases_Bool (nat_eq id o))

-- an id without a session
pub none_at : {K T : Type 0} (t : SessionsState ℕ K T) (id : ℕ) → is_some (session_in nat_eq t id) ≡ false
    → seen_at nat_eq t id ≡ None
none_at {K} {T} t id free = by (session_in nat_eq t id) free
  where
    by : (found : Option (LiveSession K T)) → is_some found ≡ false → option_map (seen_in t) found ≡ None
    by None free = refl
    by (Some s) taken = absurd (true≢false taken)

-- a table without sessions
module _ {K T : Type 0} (t : SessionsState ℕ K T) (empty : t.sessions ≡ []) where
  pub none_put : AllPut nat_eq t
  none_put id e has = absurd (true≢false (sym has
      ∙ ap (λ rows. among (entry_names_in (lookup (nat_eq id) rows)) (name_of (pointer_in e))) empty))

  pub none_seen : (id : ℕ) → seen_at nat_eq t id ≡ None
  none_seen id = ap (λ rows. option_map (seen_in t) (lookup (nat_eq id) rows)) empty

-- more values after no others, and after some
pub with_none : {K T : Type 0} (o : Option (ℕ × List (K × T))) → o ≡ option_map (with_values []) o
with_none None = refl
with_none (Some s) = ap (λ vs. Some (s.0, vs)) (sym (append-nil s.1))

pub with_more : {K T : Type 0} (xs ys : List (K × T)) (o : Option (ℕ × List (K × T)))
    → option_map (with_values ys) (option_map (with_values xs) o) ≡ option_map (with_values (xs ++ ys)) o
with_more xs ys None = refl
with_more xs ys (Some s) = ap (λ vs. Some (s.0, vs)) (append_assoc s.1 xs ys)

module _ {X : Type 0} (test : ℕ → Bool) (r : ℕ × X) where
  lookup_beside : (xs : List (ℕ × X)) → test r.0 ≡ false → lookup test (xs ++ r ∷ []) ≡ lookup test xs
  lookup_beside [] apart = grind (arith, apart)
  lookup_beside (x ∷ xs) apart = by (test x.0) refl (lookup_beside xs apart)
    where
      by : (b : Bool) → test x.0 ≡ b → lookup test (xs ++ r ∷ []) ≡ lookup test xs
          → lookup test ((x ∷ xs) ++ r ∷ []) ≡ lookup test (x ∷ xs)
      by true here rest = grind (arith, here)
      by false other rest = grind (arith, other, rest)

  lookup_last : (xs : List (ℕ × X)) → lookup test xs ≡ None → test r.0 ≡ true → lookup test (xs ++ r ∷ []) ≡ Some r.1
  lookup_last [] none here = grind (arith, here)
  lookup_last (x ∷ xs) none here = by (test x.0) refl (λ rest. lookup_last xs rest here)
    where
      by : (b : Bool) → test x.0 ≡ b → (lookup test xs ≡ None → lookup test (xs ++ r ∷ []) ≡ Some r.1)
          → lookup test ((x ∷ xs) ++ r ∷ []) ≡ Some r.1
      by true there rest = absurd (grind (arith, there, none))
      by false other rest = grind (arith, other, rest (grind (arith, other, none)))

-- one more row is logged in
pub logged_more : {X : Type 0} (old new : ℕ → Option X) (xs : List (ℕ × X)) (r : ℕ × X)
    → ((id : ℕ) → old id ≡ lookup (nat_eq id) xs) → old r.0 ≡ None → new r.0 ≡ Some r.1
    → ((o : ℕ) → nat_eq r.0 o ≡ false → new o ≡ old o)
    → (id : ℕ) → new id ≡ lookup (nat_eq id) (xs ++ r ∷ [])
logged_more {X} old new xs r are none here others id = ⊎_elim
    (λ same. subst (λ n. new n ≡ lookup (nat_eq n) (xs ++ r ∷ [])) (eqb-true r.0 id same)
    (here ∙ sym (lookup_last (nat_eq r.0) r xs (sym (are r.0) ∙ none) (grind arith))))
    (λ apart. others id apart ∙ (are id ∙ sym (lookup_beside (nat_eq id) r xs (grind (arith, apart)))))
    (cases_Bool (nat_eq r.0 id))
