-- What each call of a session leaves and promises, in the code and in the machine, and so each run.
pub mod Common
use Rattle.generational_core.proofs.machine.Calls.{act_answered, IsAnswered, reader_stands}
use Rattle.generational_core.proofs.{machine.Calls.Steps.meets_each, machine.Calls.writer_stands}
use Rattle.generational_core.specs.Keeping.{IsUnwritten}
use Rattle.std.proofs.{lemmas.List.get_or_past, lemmas.List.set_past, lemmas.List.Sums.sum_by-set}
use Rattle.std.specs.FinMap as map
use Rattle.generational_sessions.specs.declared.calls.Call.TheVariants as call
use Rattle.generational_errors.specs.declared.error.Refused as error
unfoldable pub use Common.*

-- ==== each call of a session keeps what holds of every session, and so does a whole run

-- ---- how many owner values each call of a store returns and consumes, compared with what the records
-- count

-- what a test lets through, if anything
through : {X : Type 0} (b : Bool) (o : Option X) (x : X) → cond b o None ≡ Some x
    → (b ≡ true) × (o ≡ Some x)
through b o x e = grind arith

-- there is nothing if something would be absurd
pub not_there : {X : Type 0} (o : Option X) → (is_some o ≡ true → ⊥) → o ≡ None
not_there o h = grind arith

-- a key is itself
pub itself : (key : ℕ) → cond {A = ℕ} (nat_eq key key) 1 0 ≡ 1
itself key = ap (λ (b : Bool). cond {A = ℕ} b 1 0) (nat_eq_equiv.refl key)

module _ {T : Type 0} where
  -- what a call with this answer takes from a place
  abbrev pub takes : Action T → Answer T → Held T
  takes (Action.ReleaseReader g) answer = Held.Reading g
  takes (Action.ReleaseWriter g v) answer = Held.Writing g v
  takes (Action.ReleaseOwner o) Done = Held.Owning o
  takes (Action.LeakOwner o) answer = Held.Owning o
  takes action answer = Held.Nothing

  -- how many owner values of a record a thing is
  abbrev pub owners_in : ℕ → Held T → ℕ
  owners_in key x = cond (holds_owner key x) 1 0

  -- The records count what a call returns, and lose no more than it takes. An owner that is returned is
  -- of the store.
  pub record Counts (S : State T) (call : Action T) (out : Outcome T) : Type 0 where
    pub counted : (key : ℕ) → count_under S.owners key + owners_in key
        (gives out.0) ≤ count_under out.1.owners key + owners_in key (takes call out.0)
    pub own : (o : OwnerName) → out.0 ≡ Owned o → o.store ≡ S.number

  -- another name in a list changes no count
  listed_counts : (S : State T) (o : Option OwnerName) (n : Name) (key : ℕ)
      → count_under (add_to_list S o n).owners key ≡ count_under S.owners key
  listed_counts S o n key = grind (arith, changed_view, by_number)

  counts_new : (S : State T) (f : NewNames) → IsSound S
      → Counts S Action.NewOwner (act S Action.NewOwner f)
  counts_new S f sound =
      grind (arith, not_there, sound.keys, itself, get-insert_here, get-insert_apart, by_number)

  counts_cloned : (S : State T) (o : OwnerName) (h : Option Ownership) → ownership S o ≡ h
      → Counts S (Action.CloneOwner o) (clone_owner S o h)
  counts_cloned S o h is = grind (arith, get-insert_here, by_number, get-insert_apart)

  counts_released : (S : State T) (o : OwnerName) (h : Option Ownership) → ownership S o ≡ h
      → Counts S (Action.ReleaseOwner o) (release_owner S o h)
  counts_released S o h is =
      grind (arith, get-insert_apart, by_number, get-insert_here, get-remove_apart)

  counts_point : (S : State T) (a b : GenerationalPointer) (t : Option BorrowRefusal)
      (c : Option (Cell T)) (m : Option Name) (d : Option (Cell T))
      → Counts S (Action.Point a b) (unless t S (point S a b c m d))
  counts_point S a b t (Some (Cell.Ref old l)) (Some new) (Some (Cell.Shared c k)) = grind arith
  counts_point S a b t c m d = grind arith

  act_counts : (S : State T) (call : Action T) (f : NewNames) → IsSound S
      → Counts S call (act S call f)
  act_counts S Action.NewOwner f sound = counts_new S f sound
  act_counts S (Action.Point a b) f sound =
      by_cond (Counts S (Action.Point a b)) (has_same_id a b) (λ _. grind arith)
      (λ _. counts_point S a b _ (own_cell S a.id) (reach S b) (cell_at S (reach S b)))
  act_counts S call f sound = grind (arith, listed_counts, counts_cloned, counts_released)

  -- so does each call of a store, whatever names it takes and whatever allocations fail
  pub meets_counts : (S R : State T) (call : Action T) (answer : Answer T) → IsSound S
      → Meets S call answer R → Counts S call (answer, R)
  meets_counts S R call answer sound = meets_each S R call answer (Counts S call)
      (λ refused. grind arith) (λ f _. act_counts S call f sound)

-- ---- sessions

module _ {T : Type 0} where
  -- ---- places of a table

  -- a place at the end, and those before it
  pub held_pushed : (table : List (Held T)) (x : Held T) (p : ℕ)
      → (at_place (table ++ x ∷ []) p ≡ at_place table p)
      ⊎ ((p ≡ length table) × (at_place (table ++ x ∷ []) p ≡ x))
  held_pushed (h ∷ table) x (suc p) =
      ⊎_elim inl (λ e. inr (ap suc e.0, e.1)) (held_pushed table x p)
  held_pushed table x p = grind arith

  -- a place that holds another thing, and the others
  pub held_changed : (table : List (Held T)) (p : ℕ) (x : Held T) (q : ℕ)
      → (at_place (slice_set table p x) q ≡ at_place table q)
      ⊎ ((q ≡ p) × (at_place (slice_set table p x) q ≡ x))
  held_changed (h ∷ table) (suc p) x (suc q) =
      ⊎_elim inl (λ e. inr (ap suc e.0, e.1)) (held_changed table p x q)
  held_changed table p x q = grind arith

  -- a place that was emptied, and the others
  held_emptied : (table : List (Held T)) (p q : ℕ)
      → (at_place (slice_set table p Nothing) q ≡ Nothing)
      ⊎ ((at_place (slice_set table p Nothing) q ≡ at_place table q) × (q ≢ p))
  held_emptied (h ∷ table) (suc p) (suc q) =
      ⊎_elim inl (λ e. inr (e.0, λ same. e.1 cc)) (held_emptied table p q)
  held_emptied table p q = grind arith

  -- a place that isn't issued yet is empty already
  beyond : (table : List (Held T)) → let p = length table in
      (table ≡ slice_set table p Nothing) × (at_place table p ≡ Nothing)
  beyond table = grind (arith, set_past, get_or_past)

  -- how many owner values are held, with another thing at a place
  count_changed : (key : ℕ) (table : List (Held T)) (i : ℕ) (x : Held T)
      → count_by (holds_owner key) (slice_set table i x) + owners_in key (at_place table i)
      ≤ count_by (holds_owner key) table + owners_in key x
  count_changed key table i x =
      grind (arith, sum_by-set (owners_in key) table i x Nothing, set_past, get_or_past)

  -- ---- things that are one

  same_turned : (x y : Held T) → AreOne x y → AreOne y x
  unfolding AreOne
  same_turned x y one = grind arith

  -- no two places of a table hold one thing
  abbrev AreApart : List (Held T) → Type 0
  AreApart table = (p q : ℕ) → AreOne (at_place table p) (at_place table q) → p ≡ q

  -- nor of a table in which one place alone changes, if what it holds then is new there
  still_apart : (old new : List (Held T)) (k : ℕ) (x : Held T) → AreApart old
      → ((q : ℕ) → (at_place new q ≡ at_place old q) ⊎ ((q ≡ k) × (at_place new q ≡ x)))
      → ((q : ℕ) → AreOne x (at_place old q) → k ≡ q) → AreApart new
  still_apart old new k x apart changes alone p q one = grind (arith, same_turned)

  -- ---- sessions with another place, and with another thing at a place

  kept_pushed : (s : SessionState T) (x : Held T) → IsSoundSession s → IsStoresOwn s.state x
      → ((q : ℕ) → AreOne x (at_place s.table q) → ⊥)
      → ((key : ℕ) → count_by (holds_owner key) s.table + owners_in key x
      ≤ count_under s.state.owners key)
      → IsSoundSession (add_place s x)
  kept_pushed s x kept own new room =
      let apart = still_apart s.table (s.table ++ x ∷ []) (length s.table) x kept.apart
      (held_pushed s.table x) (λ q one. absurd (new q one)) in
      grind (arith, held_pushed, sum_by_push)

  kept_told : (s : SessionState T) → IsSoundSession s → IsSoundSession (add_place s Nothing)
  unfolding AreOne IsStoresOwn
  kept_told s kept =
      kept_pushed s Nothing kept tt (λ q one. one) (λ key. omega (arith, kept.counted key))

  -- a writer that owns another value
  kept_swapped : (s : SessionState T) (p : ℕ) (g : Guard) (v old : T)
      → IsSoundSession s → at_place s.table p ≡ Writing g old → IsSoundSession (swap s p g v)
  unfolding IsStoresOwn AreOne
  kept_swapped s p g v old kept there = record {
    sound = kept.sound;
    bounded = kept.bounded;
    own = λ q. ⊎_elim (λ e. rw e (kept.own q)) (λ e. rw e.1 (rw there at (kept.own p)))
        (held_changed s.table p (Writing g v) q);
    apart = still_apart s.table (swap s p g v).table p (Writing g v) kept.apart
        (held_changed s.table p (Writing g v))
        (λ q one. kept.apart p q (rw there (grind arith)));
    counted = λ key. omega (arith, count_changed key s.table p (Writing g v), kept.counted key);
  }

  -- ---- what a call of the machine leaves

  -- what is taken of guards and boxes
  takes_guard : (action : Action T) (answer : Answer T) (g : Guard)
      → (ends_reader action g.ticket ≡ true → AreOne (takes action answer) (Reading g))
      × ((v : T) → ends_writer action g.ticket ≡ true → AreOne (takes action answer) (Writing g v))
  unfolding AreOne
  takes_guard action answer g = grind arith

  pub takes_no_box : (action : Action T) (answer : Answer T) (b : GenerationalPointer)
      → takes action answer ≢ Boxed b
  takes_no_box action answer b e = grind arith

  -- what remains when a call of the machine takes a thing from a place that holds it
  module _ (s : SessionState T) (action : Action T) (R : State T) (p : ℕ)
      (kept : IsSoundSession s) where
    -- what is given is the store's own
    given_own : (a : Answer T) → Meets s.state action a R → IsStoresOwn R (gives a)
    unfolding IsStoresOwn
    given_own (Made b) m = rw (meets_number s.state R action (Made b) m)
        ((made_new s.state R action b m).0, made_boxed s.state R action b m)
    given_own (Owned o) m = rw (meets_number s.state R action (Owned o) m)
        ((meets_counts s.state R action (Owned o) kept.sound m).own o refl)
    given_own (Reads g) m = (reads_known s.state R action g m).0
    given_own (Writes g v) m = (writes_known s.state R action g v m).0
    given_own a m = tt

    -- and is none of the things that were held
    given_new : (a : Answer T) → Meets s.state action a R → (x : Held T) → IsStoresOwn s.state x
        → AreOne (gives a) x → ⊥
    unfolding IsStoresOwn AreOne
    given_new (Made b) m (Boxed c) own one =
        let new = (made_new s.state R action b m).1 in let e = rw (← one) at own.1.0 in cc
    given_new (Reads g) m (Reading h) own one =
        let low : h.ticket < s.state.next = kept.sound.below h.cell h.ticket
        (reader_stands _ h.ticket (and_parts (nat_eq h.store s.state.number) _ own).1) in
        omega (arith, (reads_known s.state R action g m).1)
    given_new (Writes g v) m (Writing h w) own one =
        let low : h.ticket < s.state.next = kept.sound.below h.cell h.ticket
        (writer_stands _ h.ticket (and_parts (nat_eq h.store s.state.number) _ own).1) in
        omega (arith, (writes_known s.state R action g v m).1)
    given_new a m x own one = one

    module _ (answer : Answer T) (meets : Meets s.state action answer R)
        (there : at_place s.table p ≡ takes action answer) where
      -- what isn't taken stays the store's own
      stays_own : (y : Held T) → (AreOne (takes action answer) y → ⊥) → IsStoresOwn s.state y → IsStoresOwn R y
      unfolding IsStoresOwn
      stays_own (Boxed b) other own = rw (meets_number s.state R action answer meets)
          (own.0, boxed_stays s.state R action answer (name_of b) kept.sound meets own.1)
      stays_own (Reading g) other own = reader_stays s.state R action answer kept.sound meets g own
          (false_from_ne_true _ (λ e. other ((takes_guard action answer g).0 e)))
      stays_own (Writing g v) other own = writer_stays s.state R action answer kept.sound
          meets g own (false_from_ne_true _ (λ e. other ((takes_guard action answer g).1 v e)))
      stays_own (Owning o) other own = own ∙ sym (meets_number s.state R action answer meets)
      stays_own Nothing other own = tt

      abbrev left : SessionState T
      left = record { state = R; table = slice_set s.table p Nothing }

      room : (key : ℕ) → count_by (holds_owner key) left.table + owners_in key (gives answer)
          ≤ count_under R.owners key
      room key = let by = (meets_counts s.state R action answer kept.sound meets).counted key in
          let takes = ap (owners_in key) there in
          omega (arith, count_changed key s.table p Nothing, kept.counted key)

      left_kept : IsSoundSession left
      unfolding IsStoresOwn AreOne
      left_kept = record {
        sound = meets_sound s.state R action answer kept.sound meets;
        bounded = meets_bounded s.state R action answer kept.sound kept.bounded meets;
        own = λ q. let was = kept.own q in let apart = kept.apart p q in
            grind (arith, held_emptied s.table p q, stays_own (at_place s.table q));
        apart = still_apart s.table left.table p Nothing kept.apart
            (held_changed s.table p Nothing) (λ q one. absurd one);
        counted = λ key. omega (arith, room key);
      }

      kept_after : IsSoundSession (add_place left (gives answer))
      unfolding AreOne
      kept_after = kept_pushed left (gives answer) left_kept (given_own answer meets)
          (λ q one. ⊎_elim (λ e. same_turned (gives answer) Nothing (rw e at one))
          (λ e. given_new answer meets (at_place s.table q) (kept.own q) (rw e.0 at one))
          (held_emptied s.table p q)) room

  -- the place that a call empties; one that isn't issued yet, if it takes nothing
  abbrev pub emptied : SessionState T → Call T → Answer T → ℕ
  emptied s (call.Release p) answer = p
  emptied s (call.ReleaseOwner p) Done = p
  emptied s (call.LeakOwner p) answer = p
  emptied s c answer = length s.table

  -- a call empties a place of what it takes
  abbrev pub Empties : SessionState T → Call T → Action T → Answer T → Type 0
  Empties s c action answer = let p = emptied s c answer in
      (spend c answer s.table ≡ slice_set s.table p Nothing)
      × (at_place s.table p ≡ takes action answer)

  -- a reply that needs no machine: it gives no box, and isn't an error of the store
  abbrev pub is_own : SessionReply T → Bool
  is_own (SessionReply.ABox b) = false
  is_own (SessionReply.Lacking e) = false
  is_own (SessionReply.HandedBack v e) = false
  is_own _ = true

  -- What a call comes to: a reply that needs no machine, another value for a writer that is there,
  -- or a call of the machine.
  abbrev pub ComesTo : SessionState T → Call T → Request T → Answer T → Type 0
  ComesTo s c (Request.Tells x) answer = is_own x ≡ true
  ComesTo s c (Request.Swaps p g v old) answer = at_place s.table p ≡ Writing g old
  ComesTo s c (Request.Asks action) answer = Empties s c action answer

  -- what each call comes to
  pub comes_to : (s : SessionState T) (c : Call T) (answer : Answer T)
      → ComesTo s c (ask s c) answer
  comes_to s c answer = grind (arith, beyond)

  -- the reply to a call of the machine, and the session after it
  pub settled : (s r : SessionState T) (c : Call T) (x : SessionReply T) (action : Action T)
      (step : Settles s c (Request.Asks action) x r) → let out = settle s c (step.0, step.1) in
      (x ≡ out.0) × (r ≡ out.1)
  settled s r c x action step = (λ i. (step.3 i).0, λ i. (step.3 i).1)

  module _ (s r : SessionState T) (c : Call T) (x : SessionReply T) where
    -- each call of a session keeps what holds of every session
    pub session_kept : IsSoundSession s → SessionStep s c x r → IsSoundSession r
    session_kept kept step = at (ask s c) (comes_to s c) step
      where
        at : (q : Request T) → ((a : Answer T) → ComesTo s c q a) → Settles s c q x r
            → IsSoundSession r
        at (Request.Asks action) empties step = let it = empties step.0 in rw
            ((settled s r c x action step).1, it.0)
            (kept_after s action step.1 (emptied s c step.0) kept step.0 step.2 it.1)
        at (Request.Tells y) comes step = rw step.1 (kept_told s kept)
        at (Request.Swaps p g v old) comes step =
            rw step.1 (kept_told (swap s p g v) (kept_swapped s p g v old kept (comes Done)))

    -- what each call of the machine keeps, each call of a session keeps
    pub by_step : (P : State T → Type 0) → ((S R : State T) (action : Action T) (answer : Answer T)
        → P S → Meets S action answer R → P R) → SessionStep s c x r → P s.state → P r.state
    by_step P each step h = at (ask s c) step
      where
        at : (q : Request T) → Settles s c q x r → P r.state
        at (Request.Asks action) step =
            rw (settled s r c x action step).1 (each s.state step.1 action step.0 h step.2)
        at q step = rw step.1 h

    -- an ended name is never live again
    pub session_ended : SessionStep s c x r → (n : Name) → IsEnded s.state n → IsEnded r.state n
    session_ended step n = by_step (λ S. IsEnded S n)
        (λ S R action answer e meets. meets_ended S R action answer meets n e) step

    pub session_sound : IsSound s.state → SessionStep s c x r → IsSound r.state
    session_sound sound step = by_step IsSound meets_sound step sound

    -- each call keeps the bound on slots
    pub session_bounded : IsSound s.state → IsBounded s.state → SessionStep s c x r
        → IsBounded r.state
    session_bounded sound bounded step = (by_step (λ S. IsSound S × IsBounded S)
        (λ S R action answer h meets. let kept = meets_sound S R action answer h.0 meets in
        (kept, meets_bounded S R action answer h.0 h.1 meets)) step (sound, bounded)).1

    -- a value that nothing disturbs stays
    pub session_value : (b : GenerationalPointer) (m : Name) → IsSound s.state
        → SessionStep s c x r → IsUndisturbed b m s c r → value_at r.state m ≡ value_at s.state m
    session_value b m sound step u = at (ask s c) step u.unset
      where
        at : (a : Request T) → Settles s c a x r → (AskedSets s.state a m → ⊥)
            → value_at r.state m ≡ value_at s.state m
        at (Request.Asks action) step unset = meets_value s.state r.state action step.0 m sound
            (rw (settled s r c x action step).1 step.2) unset u.before.here u.after.here
        at a step unset = rw step.1 refl

  -- a store knows the owners that are held
  pub owner_known : (s : SessionState T) (p : ℕ) (o : OwnerName) → IsSoundSession s
      → at_place s.table p ≡ Owning o → is_known s.state (Some o) ≡ true
  unfolding IsStoresOwn
  owner_known s p o kept is =
      let own = kept.own p in let counted = kept.counted o.key in
      grind (arith, is, own, counted, count_changed o.key s.table p Nothing, itself o.key)

  -- a box that a place holds, and whose cell is a Ref, reaches a live Shared cell
  pub held_reaches : (s : SessionState T) (p : ℕ) (b : GenerationalPointer) (m : Name)
      (l : Location) → IsSoundSession s → at_place s.table p ≡ Boxed b
      → map.get s.state.cells (name_of b) ≡ Some (Cell.Ref m l)
      → (reach s.state b ≡ Some m) × (is_shared (map.get s.state.cells m) ≡ true)
  unfolding IsStoresOwn
  held_reaches s p b m l kept is = grind (arith, ref_reaches)

  -- and its name is no Shared cell's
  pub held_boxed : (s : SessionState T) (p : ℕ) (b : GenerationalPointer) → IsSoundSession s
      → at_place s.table p ≡ Boxed b → is_shared (map.get s.state.cells (name_of b)) ≡ false
  unfolding IsStoresOwn
  held_boxed s p b kept is = (rw is at (kept.own p)).1.1

  -- a session of a fresh store, in which nothing was called
  pub fresh_kept : (number start next : ℕ) → IsSoundSession
      (let s : SessionState T = record { state = fresh number start next; table = [] } in s)
  unfolding IsStoresOwn AreOne
  fresh_kept number start next = search (arith, fresh_sound, fresh_bounded)

  -- what each call keeps, a run keeps
  pub by_run : (P : SessionState T → Type 0)
      → ((s r : SessionState T) (c : Call T) (x : SessionReply T) → P s → SessionStep s c x r → P r)
      → (calls : List (Call T)) (replies : List (SessionReply T)) (s r : SessionState T)
      → P s → Run s calls replies r → P r
  by_run P each (c ∷ calls) (x ∷ replies) s r h run =
      by_run P each calls replies run.0 r (each s run.0 c x h run.1) run.2
  by_run P each calls replies s r h run = grind arith

  pub run_kept : (calls : List (Call T)) (replies : List (SessionReply T)) (s r : SessionState T)
      → IsSoundSession s → Run s calls replies r → IsSoundSession r
  run_kept = by_run IsSoundSession session_kept

  -- a name that has ended is ended after each run
  pub run_ended : (calls : List (Call T)) (replies : List (SessionReply T)) (s r : SessionState T)
      → Run s calls replies r → (n : Name) → IsEnded s.state n → IsEnded r.state n
  run_ended calls replies s r run n ended = by_run (λ s. IsEnded s.state n)
      (λ s r c x h step. session_ended s r c x step n h) calls replies s r ended run

  -- a value that nothing disturbs in a run, and that no writer has at its start, stays
  pub run_value : (calls : List (Call T)) (replies : List (SessionReply T)) (s r : SessionState T)
      (b : GenerationalPointer) (m : Name) → IsSound s.state → (run : Run s calls replies r)
      → Undisturbed b m s calls replies r run
      → IsUnwritten b m s.state × (value_at r.state m ≡ value_at s.state m)
  run_value (c ∷ calls) (x ∷ replies) s r b m sound run u =
      let next = session_sound s run.0 c x sound run.1 in
      let rest = run_value calls replies run.0 r b m next run.2 u.2 in (
        u.0,
        rest.1 ∙ session_value s run.0 c x b m sound run.1
            (record { before = u.0; after = rest.0; unset = u.1 }),
      )
  run_value calls replies s r b m sound run u = grind arith

-- ==== what each call of a session leaves and promises, in the code and in the machine, and so each
-- run

-- ---- what a reply says of errors: when memory or a ticket may lack, and that nothing changed

module _ {T : Type 0} where
  -- ---- calls that never fail

  -- an outcome is no error, and needs no memory; and so is each outcome of a call
  abbrev Goes : State T → Action T → Outcome T → Type 0
  Goes S action out = let answer = (limit_tickets S out).0 in
      (is_refusal answer ≡ false) × (needs_memory S answer action ≡ false)

  abbrev AlwaysGoes : State T → Request T → Type 0
  AlwaysGoes S (Asks action) = (new : NewNames) → Goes S action (act S action new)
  AlwaysGoes S _ = Unit {0}

  never_refused : (S R : State T) (action : Action T) (answer : Answer T)
      → AlwaysGoes S (Asks action) → Meets S action answer R → is_refusal answer ≡ false
  unfolding may_lack
  never_refused S R action answer h k = grind arith

  release_goes : (S : State T) (h : Held T) → AlwaysGoes S (release h)
  release_goes S h = grind arith

  leak_goes : (S : State T) (o : Option OwnerName)
      → AlwaysGoes S (with_owner o None (λ o. Asks (LeakOwner o)))
  leak_goes S o = grind arith

  -- releases of guards and leaks never fail, and what else fails spends nothing
  pub unspent : (s : SessionState T) (c : Call T) (action : Action T) (answer : Answer T)
      (R : State T) → ask s c ≡ Asks action → Meets s.state action answer R
      → is_refusal answer ≡ true → spend c answer s.table ≡ s.table
  unspent s (call.Release p) action answer R is m refused =
      let goes = rw is at (release_goes s.state (at_place s.table p)) in
      let never = never_refused s.state R action answer goes m in cc
  unspent s (call.LeakOwner p) action answer R is m refused =
      let goes = rw is at (leak_goes s.state (owner_in s p)) in
      let never = never_refused s.state R action answer goes m in cc
  unspent s (call.ReleaseOwner p) action Done R is m refused = cc
  unspent s _ action answer R is m refused = refl

  -- ---- what a reply says of its answer

  -- the error in a reply is that of the answer
  pub refusal_told : (c : Call T) (e : StoreError)
      → (refusal_in (refusal c e) ≡ want e) × (tells_error (refusal c e) ≡ true)
  refusal_told c e = grind arith

  pub tell : (c : Call T) (answer : Answer T) → (refusal_in (reply_of c answer) ≡ wants answer)
      × (tells_error (reply_of c answer) ≡ is_refusal answer)
  tell c answer = grind arith

  gives_nothing : (answer : Answer T) → is_refusal answer ≡ true → gives answer ≡ Nothing
  gives_nothing answer refused = grind arith

  -- ---- how calls of the machine fail

  -- a call that fails changes nothing, and the machine alone never answers that something lacks
  still : (S : State T) (out : Outcome T) → IsAnswered S out → is_refusal out.0 ≡ true → out.1 ≡ S
  still S out how refused = grind arith

  wants_none : (S : State T) (out : Outcome T) → IsAnswered S out → wants out.0 ≡ None
  wants_none S out h = grind arith

  -- ---- tickets

  -- whether a call takes a ticket doesn't depend on the names that it takes
  same_ticket : (S : State T) (action : Action T) (f : NewNames)
      → takes_ticket (act S action f).0 ≡ takes_ticket (act S action no_names).0
  same_ticket S action f = grind arith

  -- a call takes a ticket, and they are used up
  abbrev IsLast : State T → Action T → Type 0
  IsLast S action = (takes_ticket (act S action no_names).0 ≡ true) × (S.next ≡ last_ticket)

  limited : (S : State T) (action : Action T) (f : NewNames) → IsLast S action
      → limit_tickets S (act S action f) ≡ (Refused NumbersExhausted, S)
  limited S action f last = grind arith

  -- such a call fails with that
  exhausted : (S R : State T) (action : Action T) (answer : Answer T)
      → IsLast S action → Meets S action answer R → answer ≡ Refused NumbersExhausted
  unfolding may_lack
  exhausted S R action answer last h = grind arith

  -- ---- what an answer says of lack, and what an error leaves

  record Refusing (S : State T) (action : Action T) (out : Outcome T) : Type 0 where
    lacks : wants out.0 ≡ Some OutOfMemory → may_lack S action ≡ true
    last : wants out.0 ≡ Some NumbersExhausted → IsLast S action
    still : is_refusal out.0 ≡ true → out.1 ≡ S

  meets_refusing : (S : State T) (action : Action T) (out : Outcome T)
      → Meets S action out.0 out.1 → Refusing S action out
  meets_refusing S action out (inl m) = subst (Refusing S action) (sym m.2)
      (cond_both (takes_ticket (act S action m.0).0 && nat_eq S.next last_ticket) _ _
      (Refusing S action) (λ both. let are = and_parts _ _ both in
      let same = same_ticket S action m.0 in
      let last = eqb-true S.next last_ticket are.1 in grind arith)
      (λ _. let how = act_answered S action m.0 in let none = wants_none S _ how in
      let stays = still S _ how in grind arith))
  meets_refusing S action out (inr m) = grind arith

  -- ---- the replies of a session

  -- what each reply promises of errors
  pub record Refuses (s : SessionState T) (c : Call T) (x : SessionReply T)
      (r : SessionState T) : Type 0 where
    pub lack : TellsLack s c x
    pub exhaustion : TellsExhaustion s c x
    pub leaves_all : RefusalLeavesAll s x r

  module _ (s r : SessionState T) (c : Call T) (x : SessionReply T) where
    by_machine : (action : Action T) → ask s c ≡ Asks action → Settles s c (Asks action) x r
        → Refuses s c x r
    by_machine action asked step =
        let after = settled s r c x action step in
        let refusing = meets_refusing s.state action (step.0, step.1) step.2 in
        let says = tell c step.0 in rw (after.0, after.1) (record {
          lack = λ told. record
              { action = action; asks = asked; lacks = refusing.lacks (rw says.0 at told) };
          exhaustion = (
            λ told. let at = refusing.last (rw says.0 at told) in
                record { action = action; asks = asked; takes = at.0; last = at.1 },
            λ h. let same : h.action ≡ action = cc in says.0 ∙ ap wants (exhausted
                s.state step.1 action step.0 (rw same at h.takes, h.last) step.2),
          );
          leaves_all = λ told. let spent = unspent s c action step.0 step.1 asked step.2 in
              let none = gives_nothing step.0 in let still = refusing.still in grind arith;
        })

    pub refusals : SessionStep s c x r → Refuses s c x r
    refusals step = at (ask s c) refl (comes_to s c) step
      where
        at : (q : Request T) → ask s c ≡ q → ((a : Answer T) → ComesTo s c q a)
            → Settles s c q x r → Refuses s c x r
        at (Asks action) is comes step = by_machine action is step
        at q is comes step = let own = comes Done in grind arith

-- ---- what each call leaves, and each run

-- what is put back to where it was taken from
set_back : {X : Type 0} (xs : List X) (p : ℕ) (x y : X) → slice_get xs p ≡ Some x
    → slice_set (slice_set xs p y) p x ≡ xs
set_back (z ∷ xs) (suc p) x y h = ap (λ xs. z ∷ xs) (set_back xs p x y h)
set_back xs p x y h = grind arith

pub put_back : {X : Type 0} {xs taken after : List X} (p : ℕ) {x z : X} (y : X) → slice_get xs p
    ≡ Some x → taken ≡ slice_set xs p y → after ≡ slice_set taken p z → z ≡ x → after ≡ xs
put_back p y there takes puts is = grind (arith, set_back)

-- what holds of a result that is no error
pub went : {A E P : Type 0} (r : Result A E) → false ≡ is_err r → OnOk r P → P
went r ok p = grind arith

module _ {T : Type 0} where
  -- a call of an ended box fails with that, whatever names it takes
  pub tells_ends : (s r : SessionState T) (c : Call T) (x : SessionReply T)
      → SessionStep s c x r → TellsEnds s c x
  unfolding may_lack
  tells_ends s r c x step b needed ended = grind (arith, ended_read, ended_write)

  -- a reply gives the box that the machine made
  made_by : (answer : Answer T) (c : Call T) (b : GenerationalPointer)
      → reply_of c answer ≡ ABox b → answer ≡ Made b
  made_by answer c b h = grind arith

  -- adding a place leaves those before it
  held_before : (table : List (Held T)) (y : Held T) (p : ℕ) (b : GenerationalPointer)
      → at_place table p ≡ Boxed b → at_place (table ++ y ∷ []) p ≡ Boxed b
  held_before table y p b is = grind (arith, get_or_past, held_pushed)

  -- another thing at a place that held no box
  held_beside : (table : List (Held T)) (q : ℕ) (y : Held T) (p : ℕ) (b : GenerationalPointer)
      → at_place table q ≢ Boxed b → at_place table p ≡ Boxed b
      → at_place (slice_set table q y) p ≡ Boxed b
  held_beside table q y p b other is = grind (arith, held_changed)

  -- an owner at a place was released by the store if the reply to its release is `Done`
  pub session_released : (s r : SessionState T) (p : ℕ) (o : OwnerName) (h : Ownership)
      → SessionStep s (call.ReleaseOwner p) IsDone r → at_place s.table p ≡ Owning o
      → ownership s.state o ≡ Some h → IsReleased s.state o h r.state
  session_released s r p o h step is there = grind arith

  module _ (s r : SessionState T) (c : Call T) (x : SessionReply T)
      (step : SessionStep s c x r) where
    -- a box that is returned was never issued before, and is issued from then on
    session_new : (b : GenerationalPointer) → x ≡ ABox b → IsNewBox s.state r.state b
    session_new b is = at (ask s c) (comes_to s c) step
      where
        at : (q : Request T) → ((a : Answer T) → ComesTo s c q a) → Settles s c q x r
            → IsNewBox s.state r.state b
        at (Asks action) comes step =
            let after = settled s r c x action step in
            rw after.1 (meets_says s.state step.1 action (Made b)
            (rw (made_by step.0 c b (rw after.0 at is)) at step.2))
        at q comes step = let own = comes Done in absurd (grind arith)

    pub gives_new_box : GivesNewBox s x
    gives_new_box b is = assumption (session_new b is)

    -- each call, and so each run, leaves the boxes at their places
    pub keep_boxes : KeepBoxes s r
    keep_boxes p b is = at (ask s c) (comes_to s c) step
      where
        at : (q : Request T) → ((a : Answer T) → ComesTo s c q a) → Settles s c q x r
            → at_place r.table p ≡ Boxed b
        at (Asks action) comes step = let it = comes step.0 in
            rw ((settled s r c x action step).1, it.0) (held_before _ (gives step.0) p b
            (held_beside s.table (emptied s c step.0) Nothing p b
            (λ e. takes_no_box action step.0 b (rw it.1 at e)) is))
        at (Tells y) comes step = rw step.1 (held_before s.table _ p b is)
        at (Swaps k g v old) comes step = let there = comes Done in rw step.1
            (held_before _ Nothing p b (held_beside s.table k (Writing g v) p b (λ e. cc) is))

    -- so a call names the same box after another call
    box_in_kept : (a : BoxAt T) (b : GenerationalPointer)
        → box_in s a ≡ Some b → box_in r a ≡ Some b
    box_in_kept (Place p) b is = ap box_held (keep_boxes p b ((elim (at_place s.table p) as
        (λ h. box_held h ≡ Some b → h ≡ Boxed b) [ Boxed d ↦ λ e. cc | h ↦ λ e. cc ]) is))
    box_in_kept (Foreign d) b is = rw (by_step s r c x (λ S. S.number ≡ s.state.number)
        (λ S R action answer e meets. meets_number S R action answer meets ∙ e) step refl) is

    ruleset kept_boxes = (box_in_kept)

    need_kept : (k : Call T) (b : GenerationalPointer) → NeedsBox s k b → NeedsBox r k b
    need_kept k b is = grind (arith, box_in_kept)

    -- the last release of an owner that is done ends its boxes
    pub lasts_end : IsSound s.state → EndsOwned s c x r
    lasts_end sound h it done =
        grind (
          arith,
          session_released,
          last_cells,
          box_ends,
          listed_boxed,
          box_stays,
          shared_ends,
          shared_stays,
        )

  -- no reply has a box of a name that was issued before the run
  run_new : (calls : List (Call T)) (replies : List (SessionReply T)) (s r : SessionState T)
      → Run s calls replies r → (i : ℕ) (b : GenerationalPointer)
      → slice_get replies i ≡ Some (ABox b) → IsGiven s.state (name_of b) → ⊥
  run_new (c ∷ calls) (x ∷ replies) s r run zero b is given =
      let e = (session_new s run.0 c x run.1 b cc).ungiven in cc
  run_new (c ∷ calls) (x ∷ replies) s r run (suc i) b is given =
      run_new calls replies run.0 r run.2 i b is (by_step s run.0 c x (λ S. IsGiven S (name_of b))
      (λ S R action answer h meets. meets_given S R action answer meets (name_of b) h) run.1 given)
  run_new calls replies s r run i b is given = grind arith

  pub boxes_apart : (calls : List (Call T)) (replies : List (SessionReply T)) (s r : SessionState T)
      → Run s calls replies r → GiveBoxesApart replies
  boxes_apart (k ∷ calls) (x ∷ replies) s r run zero zero b c is at same = refl
  boxes_apart (k ∷ calls) (x ∷ replies) s r run zero (suc j) b c is at same =
      absurd (run_new calls replies run.0 r run.2 j c at
      (rw same at ((session_new s run.0 k x run.1 b cc).boxed.0)))
  boxes_apart (k ∷ calls) (x ∷ replies) s r run (suc i) zero b c is at same =
      absurd (run_new calls replies run.0 r run.2 i b is
      (rw (← same) at ((session_new s run.0 k x run.1 c cc).boxed.0)))
  boxes_apart (k ∷ calls) (x ∷ replies) s r run (suc i) (suc j) b c is at same =
      ap suc (boxes_apart calls replies run.0 r run.2 i j b c is at same)
  boxes_apart calls replies s r run i j b c is at same = grind arith

  pub run_keep_boxes : (calls : List (Call T)) (replies : List (SessionReply T))
      (s r : SessionState T) → Run s calls replies r → KeepBoxes s r
  run_keep_boxes calls replies s r run p b is = by_run (λ s. at_place s.table p ≡ Boxed b)
      (λ s r c x h step. keep_boxes s r c x step p b h) calls replies s r is run

  pub all_tell_ends : (calls : List (Call T)) (replies : List (SessionReply T))
      (s r : SessionState T) → Run s calls replies r → AllTellEnds s calls replies
  all_tell_ends (c ∷ calls) (x ∷ replies) s r run (suc i) k b there needed ended =
      all_tell_ends calls replies run.0 r run.2 i k b there
      (need_kept s run.0 c x run.1 k b needed) (session_ended s run.0 c x run.1 (name_of b) ended)
  all_tell_ends calls replies s r run i k b there needed ended = grind (arith, tells_ends)

  pub all_keep_promises : (calls : List (Call T)) (replies : List (SessionReply T))
      (s r : SessionState T) → IsSoundSession s → (run : Run s calls replies r)
      → AllKeepPromises s calls replies r run
  all_keep_promises (c ∷ calls) (x ∷ replies) s r kept run =
      let after = session_kept s run.0 c x kept run.1 in
      let ends = tells_ends s run.0 c x run.1 in let new = gives_new_box s run.0 c x run.1 in
      let owned = lasts_end s run.0 c x run.1 kept.sound in (
        assumption (refusals s run.0 c x run.1, ends, new, owned, after, after.bounded.few),
        all_keep_promises calls replies run.0 r after run.2,
      )
  all_keep_promises calls replies s r kept run = grind arith

  -- a session over a fresh store
  pub new_kept : (S : State T) (items : List (Thing T))
      → IsFresh S → items ≡ [] → IsSoundSession (as_session S items)
  new_kept S items f none = rw (none, f) (fresh_kept S.number S.start S.next)

  -- what a call gives, once it has its place, is a step of the session
  asked_step : (s m : SessionState T) (c : Call T) (a : Request T) (x : SessionReply T) (h : Held T)
      → GivesAsked s c a x h m → Settles s c a x (add_place m h)
  asked_step s m c (Request.Asks action) x h g = let S = m.state in
      (g.0, S, g.1, λ i. (g.2 i, add_place (record { state = S; table = g.4 i }) (g.3 i)))
  asked_step s m c a x h g = (g.0, λ i. add_place (g.2 i) (g.1 i))

  pub call_step : {s : SessionState T} (S R : State T) (items kept after : List (Thing T))
      (c : Call T) (x : SessionReply T) (t : Thing T)
      → as_session S items ≡ s → Gives (as_session S items) c x (as_held t) (as_session R kept)
      → after ≡ kept ++ t ∷ [] → SessionStep s c x (as_session R after)
  call_step {s} S R items kept after c x t view gives more =
      rw (← view, more, map-append as_held kept (t ∷ [])) (asked_step (as_session S items)
      (as_session R kept) c (ask (as_session S items) c) x (as_held t) gives)

  -- what is at a place, and what is put there
  pub held_there : (items : List (Thing T)) (p : ℕ) (t : Thing T) → slice_get items p ≡ Some t
      → at_place (list_map as_held items) p ≡ as_held t
  held_there (z ∷ items) (suc p) t h = held_there items p t h
  held_there items p t h = grind arith

  pub set_there : (items after : List (Thing T)) (p : ℕ) (u : Thing T) → after ≡ slice_set items p u
      → list_map as_held after ≡ slice_set (list_map as_held items) p (as_held u)
  set_there items after p u changes = ap (list_map as_held) changes ∙ map-set as_held items p u

  -- whatever a writer's release returns, the reply is the same
  pub back_reply : {U : Type 0} (p : ℕ) (back : Result U T)
      → (IsDone ≡ reply_of (call.Release p) (back_answer back))
      × (Nothing ≡ gives (back_answer back))
  back_reply p back = grind arith

  -- an error of an owner's release consumes nothing
  pub refusal_reply : (p : ℕ) (e : error.Refused BorrowMutError) (table : List (Held T))
      → (◌≡◌ {A = SessionReply T} (as_refusal e) (reply_of (call.ReleaseOwner p) (end_refused e)))
      × (◌≡◌ {A = Held T} Nothing (gives (end_refused e)))
      × (table ≡ spend (call.ReleaseOwner p) (end_refused e) table)
  refusal_reply p e table = grind arith

  -- another value for the writer at a place
  pub exchange_gives : (S : State T) (items after : List (Thing T)) (p : ℕ) (v : T)
      (x : SessionReply T) (u : Thing T) (h : Held T) → at_place (list_map as_held items) p ≡ h
      → list_map as_held after ≡ slice_set (list_map as_held items) p (as_held u)
      → x ≡ (exchange h v).0 → as_held u ≡ (exchange h v).1 → GivesAsked
      (as_session S items) (call.Replace p v) (replace p h v) x Nothing (as_session S after)
  exchange_gives S items after p v x u h is set reply put = grind (arith, set-get_or)

  -- a run of the remaining calls, after the replies so far, is a run of all
  abbrev Continues : SessionState T → List (Call T) → State T → List (Thing T) → List (Call T)
      → List (Reply T) → Type 0
  Continues s all S items calls replies = (rs : List (SessionReply T)) (last : SessionState T)
      → Run (as_session S items) (reverse calls) rs last → Run s all (as_replies replies ++ rs) last

  -- a run before its first call
  pub run_starts : {s : SessionState T} (S : State T) (items kept : List (Thing T))
      (all calls : List (Call T)) (replies : List (Reply T)) → as_session S items ≡ s
      → kept ≡ items → calls ≡ reverse all → replies ≡ [] → Continues s all S kept calls replies
  run_starts S items kept all calls replies view same turned none = grind (arith, reverse-reverse)

  -- another call of a run
  pub run_goes : (s : SessionState T) (S R : State T) (items kept after : List (Thing T))
      (all calls rest : List (Call T)) (c : Call T) (x : Reply T) (t : Thing T)
      (replies more : List (Reply T)) → calls ≡ rest ++ c ∷ [] → Gives (as_session S items) c
      (as_reply x) (as_held t) (as_session R kept) → after ≡ kept ++ t ∷ [] → more ≡ replies
      ++ x ∷ [] → Continues s all S items calls replies → Continues s all R after rest more
  run_goes s S R items kept after all calls rest c x t replies more front gives place told so_far =
      λ rs last run. rw (
        told,
        map-append as_reply replies (x ∷ []),
        append_assoc (as_replies replies) (as_reply x ∷ []) rs,
      ) (so_far (as_reply x ∷ rs) last
      (rw (front, reverse-append rest (c ∷ [])) (
        as_session R after,
        call_step S R items kept after c (as_reply x) t refl gives place,
        run,
      )))

  -- a run to its end
  pub run_ends : (s : SessionState T) (S : State T)
      (items : List (Thing T)) (all calls : List (Call T)) (replies : List (Reply T)) → calls ≡ []
      → Continues s all S items calls replies → Run s all (as_replies replies) (as_session S items)
  run_ends s S items all calls replies none so_far =
      rw (← append-nil (as_replies replies)) (so_far [] (as_session S items) (rw none refl))
