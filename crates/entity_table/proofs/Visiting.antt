-- A closure's calls on the elements of live entities, from the first one on.
use Rattle.entity_table.proofs.Keeping.Common.{AllPairs-from_increasing, Entity, IsTableKept, IsOther, IsStrictlyIncreasing, List, MapState, None, Option, Some, State}
use Rattle.entity_table.proofs.Keeping.Common.{is_some, listed, listed_shown, true, true≢false}
use Rattle.entity_table.proofs.Keeping.Common.{ap, arith, inl, inr, length, length-map, map, option_map, pointer_in, refl}
use Rattle.entity_table.proofs.Keeping.Common.{same_Some, shown_rows, slice_get, slice_get-map, slice_get_within, slot_in}
use Rattle.entity_table.proofs.Keeping.Common.{subst, suc, sym, value_in, zero, ℕ, [], ⊎_elim, ◌<◌, ◌∙◌, ◌∷◌, ◌≡◌, ◌⊎◌}
use Rattle.handles.specs.Visits.{AreChanged}
use Rattle.std.proofs.Common.{◌++◌, slice_index_or}
use Rattle.std.proofs.lemmas.Option.{unwrap_or-slice_get}
use Rattle.std.specs.Prelude.{unwrap_or}
use Rattle.std.proofs.lemmas.Fn.{FoldsTo-push}
use Rattle.std.proofs.lemmas.List.{append-nil, append_assoc, map-append}
use Rattle.std.specs.List.{FoldsTo}

-- ==== what lists have at a place

get_front : {X : Type 0} (xs ys : List X) (i : ℕ) (x : X) → slice_get xs i ≡ Some x → slice_get (xs ++ ys) i ≡ Some x
get_front [] ys i x is = cc
get_front (z ∷ xs) ys zero x is = is
get_front (z ∷ xs) ys (suc i) x is = get_front xs ys i x is

get_middle : {X : Type 0} (xs : List X) (y : X) (ys : List X) → slice_get (xs ++ y ∷ ys) (length xs) ≡ Some y
get_middle [] y ys = refl
get_middle (z ∷ xs) y ys = get_middle xs y ys

get_last : {X : Type 0} (xs : List X) (y : X) (i : ℕ) (x : X) → slice_get (xs ++ y ∷ []) i ≡ Some x
    → (slice_get xs i ≡ Some x) ⊎ (y ≡ x)
get_last [] y zero x is = inr (same_Some y x is)
get_last [] y (suc i) x is = cc
get_last (z ∷ xs) y zero x is = inl is
get_last (z ∷ xs) y (suc i) x is = get_last xs y i x is

module _ {T F : Type 0} (call : F → Entity T → T → T → F → Type 0) where
  -- the entities before some were visited, and those that are left weren't
  pub record IsVisited (rows : List (Entity T)) (S : State T) (first : F) (R : State T) (now : F)
      (left : List (Entity T)) : Type 0 where
    pub changes : List (Entity T × T × T)
    pub all : map (λ c. c.0) changes ++ left ≡ rows
    pub was : (i : ℕ) (c : Entity T × T × T) → slice_get changes i ≡ Some c → value_in S (pointer_in c.0) ≡ Some c.1
    pub is : (i : ℕ) (c : Entity T × T × T) → slice_get changes i ≡ Some c → value_in R (pointer_in c.0) ≡ Some c.2
    pub others : (e : Entity T) → ((i : ℕ) (c : Entity T × T × T) → slice_get changes i ≡ Some c → IsOther c.0 e)
        → value_in R (pointer_in e) ≡ value_in S (pointer_in e)
    pub called : FoldsTo (λ p c q. call p c.0 c.1 c.2 q) first changes now

  pub visit_begun : (S : State T) (f : F) (rows : List (Entity T)) → IsVisited rows S f S f rows
  visit_begun S f rows = record {
    changes = [];
    all = refl;
    was = λ i c is. cc;
    is = λ i c is. cc;
    others = λ e apart. refl;
    called = refl;
  }

  -- one more was visited
  pub visit_more : {rows : List (Entity T)} {S R Q : State T} {first now next : F} {e : Entity T} {left : List (Entity T)}
      (v w : T) → IsVisited rows S first R now (e ∷ left) → IsStrictlyIncreasing (map slot_in rows)
      → call now e v w next → value_in R (pointer_in e) ≡ Some v → value_in Q (pointer_in e) ≡ Some w
      → ((f : Entity T) → IsOther e f → value_in Q (pointer_in f) ≡ value_in R (pointer_in f))
      → IsVisited rows S first Q next left
  visit_more {rows} {S} {R} {Q} {first} {now} {next} {e} {left} v w so rise called old new still = record {
    changes = so.changes ++ (e, v, w) ∷ [];
    all = rw (map-append (λ (c : Entity T × T × T). c.0) so.changes ((e, v, w) ∷ []))
        (append_assoc (map (λ c. c.0) so.changes) (e ∷ []) left ∙ so.all);
    was = λ i c at. ⊎_elim (λ before. so.was i c before)
        (λ last. subst (λ (x : Entity T × T × T). value_in S (pointer_in x.0) ≡ Some x.1) last (sym (so.others e apart) ∙ old))
        (get_last so.changes (e, v, w) i c at);
    is = λ i c at. ⊎_elim (λ before. still c.0 (λ same. apart i c before (sym same)) ∙ so.is i c before)
        (λ last. subst (λ (x : Entity T × T × T). value_in Q (pointer_in x.0) ≡ Some x.2) last new)
        (get_last so.changes (e, v, w) i c at);
    others = λ f away. still f (away (length so.changes) (e, v, w) (get_middle so.changes (e, v, w) []))
        ∙ so.others f (λ i c at. away i c (get_front so.changes ((e, v, w) ∷ []) i c at));
    called = FoldsTo-push _ first so.changes now (e, v, w) next so.called called;
  }
    where
      visited : List (Entity T)
      visited = map (λ (c : Entity T × T × T). c.0) so.changes

      slot_at : (i : ℕ) (a : Entity T) → slice_get rows i ≡ Some a → slice_index_or (map slot_in rows) i 0 ≡ slot_in a
      slot_at i a at = sym (unwrap_or-slice_get (map slot_in rows) i 0)
          ∙ ap (λ o. unwrap_or o 0) (slice_get-map slot_in rows i ∙ ap (option_map slot_in) at)

      row : (i : ℕ) (c : Entity T × T × T) → slice_get so.changes i ≡ Some c → slice_get rows i ≡ Some c.0
      row i c at = rw (← so.all) (get_front visited (e ∷ left) i c.0
          (slice_get-map (λ (c : Entity T × T × T). c.0) so.changes i ∙ ap (option_map (λ (c : Entity T × T × T). c.0)) at))

      row_e : slice_get rows (length visited) ≡ Some e
      row_e = rw (← so.all) (get_middle visited e left)

      apart : (i : ℕ) (c : Entity T × T × T) → slice_get so.changes i ≡ Some c → IsOther c.0 e
      apart i c at same =
          let below : slice_index_or (map slot_in rows) i 0 < slice_index_or (map slot_in rows) (length visited) 0 =
          AllPairs-from_increasing (map slot_in rows) rise i (length visited) 0
          (omega (arith, slice_get_within so.changes i c at, length-map so.changes (λ (c : Entity T × T × T). c.0)))
          (omega (arith, slice_get_within rows (length visited) e row_e, length-map rows slot_in)) in
          absurd (omega (arith, below, slot_at i c.0 (row i c at), slot_at (length visited) e row_e, ap (λ id. id.slot) same))

  pub visit_done : {rows : List (Entity T)} {S R : State T} {first last : F} → IsVisited rows S first R last []
      → AreChanged call first (shown_rows (λ e. e) pointer_in S rows) (shown_rows (λ e. e) pointer_in R rows) last
  visit_done {rows} {S} {R} {first} {last} so = record {
    changes = so.changes;
    before = rw (← whole) (shown_by S (λ c. c.1) so.changes so.was);
    after = rw (← whole) (shown_by R (λ c. c.2) so.changes so.is);
    called = so.called;
  }
    where
      whole : map (λ (c : Entity T × T × T). c.0) so.changes ≡ rows
      whole = sym (append-nil (map (λ (c : Entity T × T × T). c.0) so.changes)) ∙ so.all

      shown_by : (Z : State T) (has : Entity T × T × T → T) (changes : List (Entity T × T × T))
          → ((i : ℕ) (c : Entity T × T × T) → slice_get changes i ≡ Some c → value_in Z (pointer_in c.0) ≡ Some (has c))
          → map (λ (c : Entity T × T × T). (c.0, has c)) changes ≡ shown_rows (λ e. e) pointer_in Z (map (λ c. c.0) changes)
      shown_by Z has [] seen = refl
      shown_by Z has (c ∷ changes) seen =
          rw (seen 0 c refl) (ap (λ l. (c.0, has c) ∷ l) (shown_by Z has changes (λ i d at. seen (suc i) d at)))

  -- the next one is live
  pub left_live : {m : MapState (Unit {0})} {S R : State T} {first now : F} {e : Entity T} {left : List (Entity T)}
      → IsTableKept R m → IsVisited (map (λ p. p.0) (listed m)) S first R now (e ∷ left)
      → is_some (value_in R (pointer_in e)) ≡ true
  left_live {m} {S} {R} {first} {now} {e} {left} kept so = held (slice_get (listed m) (length visited)) refl
    where
      visited : List (Entity T)
      visited = map (λ (c : Entity T × T × T). c.0) so.changes

      row : slice_get (map (λ (p : Entity T × Unit {0}). p.0) (listed m)) (length visited) ≡ Some e
      row = rw (← so.all) (get_middle visited e left)

      held : (o : Option (Entity T × Unit {0})) → slice_get (listed m) (length visited) ≡ o
          → is_some (value_in R (pointer_in e)) ≡ true
      held None at = absurd (true≢false (ap is_some (sym row
          ∙ (slice_get-map (λ (q : Entity T × Unit {0}). q.0) (listed m) (length visited)
          ∙ ap (option_map (λ (q : Entity T × Unit {0}). q.0)) at))))
      held (Some p) at =
          let own : p.0 ≡ e = same_Some p.0 e (sym (slice_get-map (λ (q : Entity T × Unit {0}). q.0) (listed m) (length visited)
          ∙ ap (option_map (λ (q : Entity T × Unit {0}). q.0)) at) ∙ row) in
          subst (λ x. is_some (value_in R (pointer_in x)) ≡ true) own
          (sym (kept.same p.0) ∙ ap is_some (listed_shown m (length visited) p.0 p.1 at))
