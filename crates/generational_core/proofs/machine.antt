-- What holds of each call of the machine.
pub mod Calls
use Rattle.generational_core.proofs.maps.Maps.{changed_there, IsKeyOrder, name_test}
use Rattle.generational_core.specs.Leaving.{AreFree, BeginsNoBorrow, GivesOther, HasNoBorrows}
use Rattle.generational_core.specs.Plain.{bare_cell, bare_cells, bare_content, bare_entry, Plain}
use Rattle.generational_core.specs.Rows.{borrow_rows, cell_rows, give_up_to, one_reader, owner_rows}
use Rattle.generational_core.specs.Rows.{read_more, read_row, read_rows, reader_row, record_rows}
use Rattle.generational_core.specs.declared.rows.BaseRow.{BaseRow}
use Rattle.generational_core.specs.{Slots.Fits, Boxes.id_of, Slots.lasts, Leaving.LeavesContent}
use Rattle.std.proofs.Common.{append-nil, append_assoc, leb, Ordering, suc, zero}
use Rattle.std.proofs.lemmas.Bool.Decides.{nat_tests}
use Rattle.std.specs.Prelude.{map as list_map}
use Rattle.std.specs.FinMap as map
use Rattle.generational_errors.specs.declared.error.Refused as error
use Rattle.std.specs.FinSet as set
use Rattle.generational_core.specs.declared.rows.BaseRow.TheVariants as row
unfoldable pub use Calls.*

-- ==== what a call leaves of boxes, as equations: what a box reaches, the content there, and what
-- it sees

module _ {T : Type 0} where
  -- ---- a making, which gives another box

  -- after a call that makes another box, a box reaches what it reached
  making_beside : (S : State T) → IsSound S → (call : Action T) (f : NewNames) → AreNew S call f
      → is_making call ≡ true → (b : GenerationalPointer)
      → GivesOther call (act S call f).0 b → reach (act S call f).1 b ≡ reach S b
  unfolding reach
  making_beside S s (MakeShared o v l) f new making b =
      grind (arith, get-insert_apart, get-insert_here, by_name, absent S s f.first new.0.ungiven)
  making_beside S s call f new making b = grind (arith, get-insert_apart, by_name)

  -- ---- what a box reaches

  module _ (S R : State T) (call : Action T) (answer : Answer T) where
    -- a box that reached nothing reaches nothing after a call that makes nothing
    nothing_comes : Meets S call answer R → is_making call ≡ false → (b : GenerationalPointer)
        → reach S b ≡ None → reach R b ≡ None
    unfolding reach
    nothing_comes m other b none =
        let follows = meets_follows S R call answer m in
        grind (arith, act_start S call, follows.view (name_of b), follows.number)

    -- a box reaches what it reached, unless the call ends it, points it elsewhere or makes it
    pub same_reach : IsSound S → Meets S call answer R → (b : GenerationalPointer)
        → LeavesBox S call b → GivesOther call answer b → reach R b ≡ reach S b
    same_reach s m b leaves other =
        let cases = meets_cases S R call answer m in
        let stays = reach_stays S R call answer b in
        grind (arith, nothing_comes m, cases, making_beside S s call, stays)

    -- and sees what it saw, unless the call lends its value or sets it, or takes it back
    pub same_value : IsSound S → Meets S call answer R → (b : GenerationalPointer)
        → LeavesValue S call b → GivesOther call answer b → value_in R b ≡ value_in S b
    same_value s m b leaves other = grind (arith, same_reach s m b, unseen, value_stays S R call answer b)

    -- a box is left, unless the call borrows its content, ends its borrow, or sets it
    pub leaves : IsSound S → Meets S call answer R → (b : GenerationalPointer)
        → LeavesContent S call b → GivesOther call answer b → IsUnchanged S b R
    leaves s m b h other =
        let reach = same_reach s m b (grind arith) other in
        let seen = same_value s m b (grind arith) other in
        let sound = meets_sound S R call answer s m in
        let view = (meets_follows S R call answer m).view in
        grind (arith, reach, seen, view, reached_live S b, reached_live R b, sound)

  -- the same holds of each box that isn't in the list, when an owner is released
  pub release_leaves : (S R : State T) (o : OwnerName) (answer : Answer T) → IsSound S
      → Meets S (ReleaseOwner o) answer R → (h : Ownership) → ownership S o ≡ Some h
      → (b : GenerationalPointer) → among h.names (name_of b) ≡ false → IsUnchanged S b R
  release_leaves S R o answer s m h held b out = leaves S R (ReleaseOwner o) answer s m b
      (ap (λ r. among (names_in r) (name_of b)) (held_record S o h held) ∙ out) tt

  -- a borrow of a box that the call leaves would have the same answer
  pub left_refusals : (S R : State T) (b : GenerationalPointer) → IsUnchanged S b R
      → (refusal_to_read R b ≡ refusal_to_read S b) × (refusal_to_write R b ≡ refusal_to_write S b)
  unfolding refusal_to_read refusal_to_write
  left_refusals S R b left = grind arith

  -- a box whose name was issued isn't the one that a call gives
  pub given_other : (S R : State T) (call : Action T) (answer : Answer T) (b : GenerationalPointer)
      → Meets S call answer R → IsGiven S (name_of b) → GivesOther call answer b
  given_other S R call answer b m given = grind (arith, made_new S R call)

-- ==== stores without borrows: which calls leave them so, and what never fails there; and what the tests
-- of boxes say

module _ {T : Type 0} where
  -- ---- what a test says

  -- in a sound state a box may be read exactly if it sees a value
  pub test_sees : (S : State T) (b : GenerationalPointer) → IsSound S
      → can_read S b ≡ is_some (value_in S b)
  unfolding refusal_to_read value_in
  test_sees S b s = grind (arith, reached_content S b)

  -- ---- stores without borrows

  module _ (S : State T) (quiet : HasNoBorrows S) (b : GenerationalPointer) where
    -- a box that reaches something may be written
    pub quiet_free : (m : Name) → reach S b ≡ Some m → can_write S b ≡ true
    quiet_free m to = rests_free S b m (record { reaches = to; free = grind (arith, quiet.none m) })

    -- so one that sees nothing reaches nothing
    pub quiet_gone : IsSound S → value_in S b ≡ None → reach S b ≡ None
    quiet_gone s none = grind (arith, free_sees, quiet_free)

    -- and a box may be written exactly if it sees a value
    pub quiet_sees : IsSound S → can_write S b ≡ is_some (value_in S b)
    unfolding refusal_to_write value_in
    quiet_sees s = grind (arith, free_sees)

  -- ---- which calls leave a store so

  pub quiet_fresh : (number start next : ℕ) → HasNoBorrows (fresh {T = T} number start next)
  quiet_fresh number start next = grind (arith, map.get-empty {X = Cell T} name_cmp)

  module _ {S R : State T} where
    -- each call that begins no borrow
    pub quiet_stays : (call : Action T) (answer : Answer T) → Meets S call answer R
        → BeginsNoBorrow call → HasNoBorrows S → HasNoBorrows R
    quiet_stays call answer m begins quiet =
        grind (arith, (meets_follows S R call answer m).view, quiet.none, refilled_content)

    -- a read that was released, and a write
    pub quiet_read : {Q : State T} (b : GenerationalPointer) (l : Location) (g : Guard)
        (flag : Bool) → IsSound S → Meets S (Read b l) (Reads g) R
        → Meets R (ReleaseReader g) (Flag flag) Q → HasNoBorrows S → HasNoBorrows Q
    quiet_read b l g flag s read release quiet =
        rw (reads_back b l g flag s read release) (record { none = quiet.none })

    pub quiet_set : (b : GenerationalPointer) (v : T) → IsSet S b v R → HasNoBorrows S → HasNoBorrows R
    quiet_set b v it quiet =
        grind (arith, it.after, it.content, get-changed_name, name_same, quiet.none)

  -- ---- ends that no borrow hinders

  -- no borrow hinders names that are free
  unhindered : (S : State T) (names : List Name) → AreFree S names → hindrance_to S names ≡ None
  unfolding hindrance_to reach
  unhindered S names free = each names (λ n h. h)
    where
      one : (n : Name) → among names n ≡ true → (c : Option (Cell T)) → map.get S.cells n ≡ c
          → hindrance_of S.cells (cells_after S.cells names) c n ≡ None
      one n there (Some (Value k l)) is = let b = box_of S.number n l in
          grind (arith, free b n, rests S b, nat_eq_equiv)
      one n there (Some (Ref m l)) is = let b = box_of S.number n l in
          grind (arith, free b m, rests S b, nat_eq_equiv)
      one n there _ is = refl

      each : (some : List Name) → ((n : Name) → among some n ≡ true → among names n ≡ true)
          → first_hindrance S.cells (cells_after S.cells names) some ≡ None
      each [] within = refl
      each (n ∷ some) within = grind (arith, one n, within, name_here, each some)

  module _ {S R : State T} where
    -- so a release of their owner never fails
    pub frees_owned : (o : OwnerName) (h : Ownership) {U V : Type 0}
        (r : Result U (V × error.Refused BorrowMutError)) → ownership S o ≡ Some h
        → AreFree S h.names → Meets S (ReleaseOwner o) (release_answer r) R → IsOk r
    unfolding may_lack
    frees_owned o h r held free m = grind (arith, unhindered S h.names free)

    -- nor does a removal in a store without borrows, or an owner's release
    pub quiet_ends : (b : GenerationalPointer) {U : Type 0} (r : Result U (error.Refused BorrowMutError))
        → HasNoBorrows S → Meets S (End b) (end_answer r) R → IsOk r
    unfolding may_lack
    quiet_ends b r quiet m =
        grind (arith, unhindered S (own_name S b) (λ a m there to gone. quiet_free S quiet a m to))

    pub quiet_releases : (o : OwnerName) (h : Ownership) {U V : Type 0}
        (r : Result U (V × error.Refused BorrowMutError)) → ownership S o ≡ Some h
        → HasNoBorrows S → Meets S (ReleaseOwner o) (release_answer r) R → IsOk r
    quiet_releases o h r held quiet m = grind (arith, frees_owned, quiet_free)

-- ==== the bound on slots: what the last generations of slots depend on, that slots are live, free
-- or retired, and that each call keeps the bound

abbrev pub IsIn : List Name → Name → Type 0
IsIn names n = list_any (eq_by_cmp name_cmp n) names ≡ true

-- what the map has of a slot: nothing, and then no name is of that slot, or a name's generation
-- that no other exceeds
abbrev pub IsLast : List Name → ℕ → Option ℕ → Type 0
IsLast names s None = (n : Name) → IsIn names n → n.slot ≢ s
IsLast names s (Some g) = IsIn names (record { slot = s; generation = g })
    × ((n : Name) → IsIn names n → n.slot ≡ s → n.generation ≤ g)

-- the greater of a generation and what was there
abbrev pub greater : ℕ → Option ℕ → ℕ
greater g o = max g (unwrap_or o 0)

pub get_lasts : (names : List Name) (s : ℕ) → IsLast names s (map.get (lasts names) s)
unfolding lasts
get_lasts [] s = grind (arith, map.get-empty {X = ℕ} nat_cmp)
get_lasts (m ∷ names) s =
    by_keys by_number s m.slot
    (λ is. rw (is, get-insert_here by_number)
    (grind (arith, get_lasts names m.slot, key_here, key_same, by_name)))
    (λ ne. rw (get-insert_apart by_number (lasts names) m.slot _ s ne)
    (grind (arith, get_lasts names s, key_same, by_name)))

-- two lists with the same names have the same last generations
pub one_last : (xs ys : List Name) (s : ℕ) → ((n : Name) → IsIn xs n → IsIn ys n)
    → ((n : Name) → IsIn ys n → IsIn xs n) → (o p : Option ℕ) → IsLast xs s o → IsLast ys s p → o ≡ p
one_last xs ys s f b o p h k = grind arith

-- lists with the same names have the same last generations
pub lasts_same : (xs ys : List Name) → ((n : Name) → IsIn xs n → IsIn ys n)
    → ((n : Name) → IsIn ys n → IsIn xs n) → lasts xs ≡ lasts ys
lasts_same xs ys f b = map.same_map nat_cmp_total map.nat_cmp-IsAntisymmetric
    (lasts xs) (lasts ys) (λ s. one_last xs ys s f b _ _ (get_lasts xs s) (get_lasts ys s))

-- if no name was issued, there is no slot
pub no_slots : lasts (set.items (set.empty {R = name_cmp})) ≡ map.empty
unfolding lasts
no_slots = lasts_same (set.items set.empty) [] (λ n h. let none = set.contains-empty name_cmp n in
    cc (set.contains-items (set.empty {R = name_cmp}) n)) (λ n h. cc)

-- another name issued
pub lasts_insert : (given : Names) (n : Name)
    → lasts (set.items (set.insert given n)) ≡ map.insert (lasts (set.items given)) n.slot
    (greater n.generation (map.get (lasts (set.items given)) n.slot))
unfolding lasts
lasts_insert given n =
    let same = set.contains-insert name_total given n in
    let items = set.contains-items (set.insert given n) in
    let old = set.contains-items given in
    lasts_same _ (n ∷ set.items given) (grind (arith, same, items, old))
    (grind (arith, same, items, old))

module _ {T : Type 0} where
  -- no retired slot is lost if such slots keep their last generations and get no live cell
  retired_still : (S R : State T) → ((s : ℕ) → map.contains_key (slots_of S) s ≡ true
      → is_retired S s ≡ true → (map.get (slots_of R) s ≡ map.get (slots_of S) s)
      × (is_some (map.get R.cells (last_name S s)) ≡ true → is_last_live S s ≡ true))
      → retired S ≤ retired R
  retired_still S R still =
      let view = keep_view by_number (slots_of S) (is_retired S) in
      len_within by_number _ _ (λ s h. grind (arith, view s, still s, kept_key, by_number))

  -- if nothing new is live and no name is issued, the bound holds still
  kept_bounded : (S R : State T) → R.given ≡ S.given → R.peak ≡ S.peak
      → ((n : Name) → is_some (map.get R.cells n) ≡ true → is_some (map.get S.cells n) ≡ true)
      → IsBounded S → IsBounded R
  kept_bounded S R given peak live b = grind (arith, retired_still, len_within, by_name)

  -- an issued name's slot was made
  pub slot_made : (S : State T) (n : Name) → IsGiven S n → map.contains_key (slots_of S) n.slot ≡ true
  slot_made S n given = grind (arith, get_lasts (set.items S.given) n.slot, set.contains-items S.given n)

  -- a new name's slot is one of those that were made, or the next
  pub slot_within : (S : State T) (n : Name) → IsBounded S → Fits S n → n.slot ≤ slots S
  slot_within S n b h = grind arith

  -- live names were issued
  abbrev AreGiven : State T → Type 0
  AreGiven S = (q : Name) → IsLive S q → IsGiven S q

  -- each slot is live, free or retired, and is one of them
  pub slots_live : (S : State T) → AreGiven S → IsBounded S
      → slots S ≡ map.len S.cells + free S + retired S
  slots_live S given b =
      let keep = map.retain_keys (slots_of S) in
      let live = keep (is_last_live S) in
      let rest = keep (λ s. not (is_last_live S s)) in
      let view = get-keep by_number (slots_of S) in
      let one = len_parts by_number (slots_of S) live rest (grind (arith, view))
      (λ s. grind (arith, view)) in
      let two = len_parts by_number rest (keep (is_free S)) (keep (is_retired S))
      (grind (arith, view)) (λ s. grind (arith, view)) in
      let few = len_from by_name by_number (λ n. n.slot) live S.cells (last_name S)
      (grind (arith, view)) in
      let many = len_from by_number by_name (last_name S) S.cells live (λ n. n.slot)
      (λ n live. grind (arith, view, slot_made S n, given n, b.last n)) in
      omega arith

  -- no live name has the slot of a new one
  pub slot_apart : (S : State T) (n : Name) → AreGiven S → IsBounded S → Fits S n
      → (q : Name) → IsLive S q → q.slot ≢ n.slot
  slot_apart S n given b h q live = grind (arith, slot_made)

  -- what is live next to a new cell; if the live names were issued, they are so with the new one
  live_beside : (S : State T) (n : Name) (c : Cell T) (q : Name) → q ≢ n
      → IsLive (add_cell S n c) q → IsLive S q
  live_beside S n c q ne live = rw (get-insert_apart by_name S.cells n c q ne) at live

  given_beside : (S : State T) (n : Name) (c : Cell T) → AreGiven S → AreGiven (add_cell S n c)
  given_beside S n c given q live =
      let is = set.contains-insert name_total S.given n q in
      grind (arith, is, live_beside S n c q, given q, key_same by_name)

  -- a new cell at a name that fits
  module _ (S : State T) (n : Name) (c : Cell T) (given : AreGiven S)
      (none : map.get S.cells n ≡ None) (b : IsBounded S) where
    -- other slots have what they had
    other_slots : (s : ℕ) → s ≢ n.slot → map.get (slots_of (add_cell S n c)) s ≡ map.get (slots_of S) s
    other_slots s ne = grind (arith, lasts_insert, get-insert_apart, by_number)

    -- if its slot isn't retired, and no slot is made without need
    bounded_with : (is_retired S n.slot ≡ true → map.contains_key (slots_of S) n.slot ≡ true → ⊥)
        → slots (add_cell S n c) ≤ max S.peak (map.len S.cells + 1) + retired S → slots S ≤
        slots (add_cell S n c) → n.slot < slots (add_cell S n c)
        → ((q : Name) → IsLive (add_cell S n c) q → q ≡ last_name (add_cell S n c) q.slot)
        → IsBounded (add_cell S n c)
    bounded_with plain few up here named =
        let more = retired_still S (add_cell S n c)
        (λ s there gone. grind (arith, plain, other_slots s, live_beside S n c (last_name S s))) in
        let cells : map.len (add_cell S n c).cells ≡ map.len S.cells + 1 =
        rw (map.len-insert name_total S.cells n c, none) in
        record {
          few = omega arith;
          live = omega arith;
          dense = λ s h. grind (arith, b.dense s, other_slots s);
          last = named;
        }

    -- the new name is the last of its slot, and so are the others still
    all_last : Fits S n → (q : Name) → IsLive (add_cell S n c) q → q ≡ last_name (add_cell S n c) q.slot
    all_last fits q live =
        let last = lasts_insert S.given n in
        let apart = slot_apart S n given b fits q in
        let old = live_beside S n c q in
        let rest = other_slots q.slot in
        grind (arith, last, get-insert_here, by_number, old, rest, apart, name_cases q n)

    born_bounded : Fits S n → IsBounded (add_cell S n c)
    born_bounded (inl new) =
        let missing : map.contains_key (slots_of S) n.slot ≡ false = grind (arith, b.dense n.slot) in
        let more : slots (add_cell S n c) ≡ slots S + 1 =
        rw (lasts_insert S.given n, map.len-insert nat_cmp_total, missing) in
        bounded_with (λ r e. cc) (omega (arith, new.0, slots_live S given b)) (omega arith)
        (omega (arith, new.1)) (all_last (inl new))
    born_bounded (inr old) =
        let same : slots (add_cell S n c) ≡ slots S =
        rw (lasts_insert S.given n, map.len-insert nat_cmp_total, old.0) in
        bounded_with (λ r e. grind arith) (omega (arith, b.few)) (omega arith)
        (omega (arith, b.dense n.slot old.0)) (all_last (inr old))

  -- each change keeps the bound
  change_bounded : (S : State T) (call : Action T) (f : NewNames) (next : ℕ) (c : Change T)
      → IsSound S → IsBounded S → AreNew S call f → IsLawful S call f next c
      → ((q : Name) → is_some (map.get (after S f c).cells q) ≡ true
      → (is_some (map.get S.cells q) ≡ true)
      ⊎ ((set.contains S.given q ≡ false) × (set.contains (after S f c).given q ≡ true)))
      → IsBounded (after S f c)
  change_bounded S call f next (Change.Pair v l) s b new law live =
      let c : Cell T = Cell.Shared (Content.Here v []) l in let it = law.1 new in
      born_bounded (add_cell S f.first c) f.second (Cell.Ref f.first l)
      (given_beside S f.first c s.given) (absent_beside S s f.first f.second c it.1.ungiven)
      (born_bounded S f.first c s.given (absent S s f.first it.0.ungiven) b it.0.fits) it.1.fits
  change_bounded S call f next c s b new law live =
      grind (arith, born_bounded, absent, kept_bounded S (after S f c), live)

  -- each call of a sound store keeps the bound
  pub meets_bounded : (S R : State T) (call : Action T) (answer : Answer T)
      → IsSound S → IsBounded S → Meets S call answer R → IsBounded R
  meets_bounded S R call answer s b = meets_each S R call answer (λ o. IsBounded o.1) (λ _. b)
      (λ f new. let h = act_leads S call f in subst IsBounded (sym h.is)
      (kept_bounded (after S f h.change) (last h) refl refl (λ n e. e)
      (change_bounded S call f h.next h.change s b new h.lawful
      (live_before (change_follows new h)))))

  -- a fresh store has no slots
  pub fresh_bounded : (number start next : ℕ) → IsBounded (fresh {T = T} number start next)
  fresh_bounded number start next =
      let slot = map.get-empty {X = ℕ} nat_cmp in
      let cell = map.get-empty {X = Cell T} name_cmp in
      grind (arith, no_slots, map.len-empty nat_cmp ℕ, map.len-empty name_cmp (Cell T), slot, cell)

  -- so a call takes a sound and bounded state to another one
  pub meets_kept : (S R : State T) (call : Action T) (answer : Answer T)
      → IsSound S → IsBounded S → Meets S call answer R → IsSound R × (IsBounded R × Unit {0})
  meets_kept S R call answer s b m = search (arith, meets_sound, meets_bounded)

-- ==== how many slots are live, free and retired: each is one of these, and no two live names have
-- one slot

-- each slot is live, free or retired, and is one of them
pub slots_are : {T : Type 0} (S : State T) (s : IsSound S) (b : IsBounded S)
    → slots S ≡ map.len S.cells + free S + retired S
slots_are S s b = slots_live S s.given b

-- ==== rows that are read back, one list after the other: the cell of a name, and owners' records; and
-- what is under a name without its value

-- one list is read after the other
pub read_append : (xs ys : List BaseRow) (P : Plain)
    → read_rows P (xs ++ ys) ≡ read_rows (read_rows P xs) ys
read_append [] ys P = refl
read_append (x ∷ xs) ys P = read_append xs ys (read_row P x)

-- ---- what is put under keys, one after the other

module _ {K X : Type 0} {R : K → K → Ordering} where
  abbrev pub put : map.FinMap R X → List (K × X) → map.FinMap R X
  put m [] = m
  put m (e ∷ es) = put (map.insert m e.0 e.1) es

-- no key is there twice
abbrev pub AreApart : {K X : Type 0} → (K → K → Ordering) → List (K × X) → Type 0
AreApart R [] = Unit {0}
AreApart R (e ∷ es) = (map.find R e.0 es ≡ None) × AreApart R es

module _ {K X : Type 0} {R : K → K → Ordering} (o : IsKeyOrder R) where
  put_twice : (m : map.FinMap R X) (k : K) (x y : X)
      → map.insert (map.insert m k x) k y ≡ map.insert m k y
  put_twice m k x y = map.same_map o.total o.exact _ _
      (λ q. grind (arith, map.get-insert {X = X} o.total))

  -- what was put is changed
  changed_put : (m : map.FinMap R X) (k : K) (x : X) (f : X → X)
      → change (map.insert m k x) k f ≡ map.insert m k (f x)
  changed_put m k x f =
      changed_there o (map.insert m k x) k f x (get-insert_here o m k x) ∙ put_twice m k x (f x)

  get_put : (m : map.FinMap R X) (es : List (K × X)) → AreApart R es → (q : K)
      → map.get (put m es) q ≡ option_or (map.find R q es) (map.get m q)
  get_put m [] apart q = refl
  get_put m (e ∷ es) apart q =
      grind (arith, get_put (map.insert m e.0 e.1) es apart.1 q, map.get-insert {X = X} o.total, key_same o)

  -- what is put under a key that had nothing
  pub put_new : (es : List (K × X)) → AreApart R es → put (map.empty {R = R}) es ≡ map.from_entries es
  put_new es apart = map.same_map o.total o.exact _ _ (λ q.
      rw (get_put map.empty es apart q, map.get-empty R q, map.get-from_entries o.total es q)
      (grind arith))

  find_none : (k : K) (es : List (K × X))
      → AllByRecursion (λ y. eq_by_cmp R k y ≡ false) (list_map (λ (e : K × X). e.0) es)
      → map.find R k es ≡ None
  find_none k [] all = refl
  find_none k (e ∷ es) all = rw all.0 (find_none k es all.1)

  apart_of : (es : List (K × X))
      → IsDistinct (eq_by_cmp R) (list_map (λ (e : K × X). e.0) es) → AreApart R es
  unfolding IsDistinct
  apart_of [] h = tt
  apart_of (e ∷ es) h = (find_none e.0 es h.0, apart_of es h.1)

  -- all that a map has
  pub put_all : (m : map.FinMap R X) → put (map.empty {R = R}) (map.entries m) ≡ m
  put_all m =
      let none = map.get-empty {X = X} R in
      map.same_map o.total o.exact _ _
      (λ q. grind (arith, get_put, apart_of, keys_apart, none, map.get-entries))

-- ---- the cell of a name

module _ (P : Plain) (number : ℕ) (n : Name) (cell : Cell (Unit {0})) where
  abbrev holding : Content (Unit {0}) → Plain
  holding c = record P { cells = map.insert P.cells n (refill c cell) }

  more_read : (b : Borrow) (c : Content (Unit {0}))
      → one_reader b (refill c cell) ≡ refill (read_more b c) cell
  more_read b c = grind arith

  readers_read : (done rest : List Borrow)
      → read_rows (holding (Here tt done)) (list_map (reader_row (id_of number n)) rest)
      ≡ holding (Here tt (done ++ rest))
  readers_read done [] = grind (arith, append-nil)
  readers_read done (b ∷ rest) =
      ap (λ m. read_rows (record P { cells = m }) (list_map (reader_row (id_of number n)) rest))
      (changed_put by_name P.cells n (refill (Here tt done) cell) (one_reader b)
      ∙ ap (map.insert P.cells n) (more_read b (Here tt done)))
      ∙ readers_read (done ++ b ∷ []) rest
      ∙ ap (λ rs. holding (Here tt rs)) (append_assoc done (b ∷ []) rest)

  content_read : {T : Type 0} (c : Content T)
      → read_rows (holding (Here tt [])) (borrow_rows (id_of number n) c) ≡ holding (bare_content c)
  content_read (Here v readers) = readers_read [] readers
  content_read (Lent w) =
      let is : refill (Lent w) (refill (Here tt []) cell) ≡ refill (Lent w) cell = grind arith in
      rw (changed_put by_name P.cells n (refill (Here tt []) cell) (refill (Lent w)), is)

pub cell_read : {T : Type 0} (P : Plain) (number : ℕ) (n : Name) (c : Cell T)
    → read_rows P (cell_rows number n (Some c)) ≡ record P { cells = map.insert P.cells n (bare_cell c) }
cell_read P number n (Value c l) = content_read P number n (Value (Here tt []) l) c
cell_read P number n (Shared c l) = content_read P number n (Shared (Here tt []) l) c
cell_read P number n (Ref m l) = refl

-- ---- the names of a slot

pub contains_up_to : (slot g : ℕ) (given : Names) (q : Name)
    → set.contains (give_up_to slot g given) q
    ≡ ((nat_eq q.slot slot && (leb 1 q.generation && leb q.generation g)) || set.contains given q)
contains_up_to slot zero given q = grind (arith, nat_tests)
contains_up_to slot (suc g) given q =
    grind (arith, nat_tests, contains-insert_name, name_test, contains_up_to slot g given q)

-- ---- owners' records

abbrev owning : Plain → ℕ → Ownership → Plain
owning P k h = record P { owners = map.insert P.owners k h }

names_read : (P : Plain) (number k c : ℕ) (done rest : List Name)
    → read_rows (owning P k (record { names = done; count = c }))
    (list_map (λ n. row.Owned k (id_of number n)) rest)
    ≡ owning P k (record { names = done ++ rest; count = c })
names_read P number k c done [] = grind (arith, append-nil)
names_read P number k c done (n ∷ rest) =
    grind (arith, names_read P number k c (done ++ n ∷ []) rest, changed_put, by_number, append_assoc)

pub owners_read : (P : Plain) (number : ℕ) (es : List (ℕ × Ownership))
    → read_rows P (owner_rows number es) ≡ record P { owners = put P.owners es }
owners_read P number [] = refl
owners_read P number (e ∷ es) =
    rw (read_append (record_rows number e) (owner_rows number es) P)
    (rw (names_read P number e.0 e.1.count [] e.1.names) (owners_read (owning P e.0 e.1) number es))

-- the records of a map, in the order of their keys
pub all_owners_read : (P : Plain) (number : ℕ) (owners : Owners) → P.owners ≡ map.empty
    → read_rows P (owner_rows number (map.entries owners)) ≡ record P { owners = owners }
all_owners_read P number owners none = grind (arith, owners_read, put_all, by_number)

-- ---- what is under a name without its value

pub find_bare : {T : Type 0} (q : Name) (es : List (Name × Cell T))
    → map.find name_cmp q (list_map bare_entry es) ≡ option_map bare_cell (map.find name_cmp q es)
find_bare q [] = refl
find_bare q (e ∷ es) = grind (arith, find_bare q es)

pub get_bare_cell : {T : Type 0} (cells : NameMap (Cell T)) (n : Name)
    → map.get (bare_cells cells) n ≡ option_map bare_cell (map.get cells n)
unfolding bare_cells
get_bare_cell cells n = let made = map.get-from_entries {X = Cell (Unit {0})} name_total in
    grind (arith, made, find_bare, map.get-entries)
