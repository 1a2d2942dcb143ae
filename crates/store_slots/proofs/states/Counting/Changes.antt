-- The state that slots represent, and what a write to a slot is in it.
pub mod Common
use Rattle.std.specs.FinMap as map
use Rattle.std.specs.FinSet as set
use Rattle.store_cells.specs.declared.entry.CellKind.TheVariants as kind
unfoldable pub use Common.*

-- ==== the state that a store's slots represent: what is at a name, which names were issued, and how many
-- slots are live, free and retired

-- cells and names that are the same at each name
pub same_cells : {T : Type 0} (a b : NameMap (Cell T))
    → ((q : Name) → map.get a q ≡ map.get b q) → a ≡ b
same_cells a b same = map.same_map name_total name_exact a b same

pub same_names : (a b : Names) → ((q : Name) → set.contains a q ≡ set.contains b q) → a ≡ b
same_names a b same = set.same_set name_total name_exact a b same

-- names of two slots differ
pub not_named : (q m : Name) → q.slot ≢ m.slot → is_name q m ≡ false
not_named q m other = rw (name_test q m, ne_eqb q.slot m.slot other) refl

module _ {T : Type 0} where
  -- the list of live cells at a name that isn't, and that may be, its first one's
  find_with : (n here : Name) (c : Option (Cell T)) (rest : List (Name × Cell T))
      → map.find name_cmp n (with_cell here c rest)
      ≡ cond (is_name n here) (option_or c (map.find name_cmp n rest)) (map.find name_cmp n rest)
  unfolding is_name
  find_with n here c rest = grind (arith, cond_same)

  pub find_below : (i : ℕ) (slots : List (Entry T)) (n : Name) → n.slot < i
      → map.find name_cmp n (live_from i slots) ≡ None
  find_below i [] n h = refl
  find_below i (e ∷ slots) n h =
      grind (arith, find_with, not_named, find_below (i + 1) slots n)

  find_at : (i : ℕ) (slots : List (Entry T)) (n : Name) (k : ℕ) → n.slot ≡ i + k
      → map.find name_cmp n (live_from i slots) ≡ cell_in (slice_get slots k) n.generation
  find_at i [] n k is = refl
  find_at i (e ∷ slots) n (suc k) is =
      grind (arith, find_with, not_named, find_at (i + 1) slots n k)
  find_at i (e ∷ slots) n zero is =
      grind (arith, find_with, nat_tests, name_test, find_below (i + 1) slots n)

  -- what the machine's map has at a name
  pub get_cells : (slots : List (Entry T)) (n : Name)
      → map.get (cells_of slots) n ≡ cell_under slots n
  unfolding cells_of
  get_cells slots n =
      grind (arith, map.get-from_entries {X = Cell T} name_total, find_at 0 slots n n.slot)

  -- a slot has a live cell if the machine has one
  pub live_cell : (k : Kept T) → is_some (cell_of k) ≡ is_live k
  live_cell k = grind arith

  pub len_cells : (slots : List (Entry T))
      → map.len (cells_of slots) ≡ how_many (λ e. is_live e.kept) slots
  unfolding cells_of
  len_cells slots = from 0 slots
    where
      from : (i : ℕ) (es : List (Entry T))
          → map.len (map.from_entries {R = name_cmp} (live_from i es))
          ≡ how_many (λ e. is_live e.kept) es
      from i [] = map.len-empty name_cmp (Cell T)
      from i (e ∷ es) =
          let n : Name = record { slot = i; generation = e.generation } in
          let rest = map.from_entries {R = name_cmp} (live_from (i + 1) es) in
          let absent : map.get rest n ≡ None =
          map.get-from_entries name_total _ n ∙ find_below (i + 1) es n (omega arith) in
          let more = map.len-insert {X = Cell T} name_total rest n in
          grind (arith, from (i + 1) es, more, live_cell e.kept)

any_up : (q : Name) (slot from count : ℕ)
    → list_any (eq_by_cmp name_cmp q) (names_up slot from count)
    ≡ (nat_eq q.slot slot && (leb from q.generation && ltb q.generation (from + count)))
unfolding is_name
any_up q slot from zero = grind (arith, nat_tests)
any_up q slot from (suc k) = grind (arith, nat_tests, name_test, any_up q slot from k)

up_to : (start last g : ℕ)
    → (leb start g && ltb g (start + (last + 1 - start))) ≡ (leb start g && leb g last)
up_to start last g = grind (arith, nat_tests)

-- whether a generation of a slot was issued
abbrev pub given_in : {T : Type 0} → ℕ → Option (Entry T) → ℕ → Bool
given_in start None g = false
given_in start (Some e) g = leb start g && leb g e.generation

module _ {T : Type 0} (start : ℕ) where
  pub any_of : (i : ℕ) (e : Entry T) (slots : List (Entry T)) (q : Name)
      → list_any (eq_by_cmp name_cmp q) (given_from start i (e ∷ slots))
      ≡ ((nat_eq q.slot i && given_in start (Some e) q.generation)
      || list_any (eq_by_cmp name_cmp q) (given_from start (i + 1) slots))
  any_of i e slots q = grind (arith, list_any-append, any_up, up_to)

  any_below : (i : ℕ) (slots : List (Entry T)) (q : Name) → q.slot < i
      → list_any (eq_by_cmp name_cmp q) (given_from start i slots) ≡ false
  any_below i [] q h = refl
  any_below i (e ∷ slots) q h = grind (arith, nat_tests, any_of, any_below (i + 1) slots q)

  any_at : (i : ℕ) (slots : List (Entry T)) (q : Name) (k : ℕ) → q.slot ≡ i + k
      → list_any (eq_by_cmp name_cmp q) (given_from start i slots)
      ≡ given_in start (slice_get slots k) q.generation
  any_at i [] q k is = refl
  any_at i (e ∷ slots) q zero is = grind (arith, nat_tests, any_of, any_below (i + 1) slots q)
  any_at i (e ∷ slots) q (suc k) is = grind (arith, nat_tests, any_of, any_at (i + 1) slots q k)

  pub get_given : (slots : List (Entry T)) (q : Name)
      → set.contains (given_of start slots) q ≡ given_in start (slice_get slots q.slot) q.generation
  unfolding given_of
  get_given slots q = grind (arith, set.contains-from_list name_total, any_at)

module _ {T : Type 0} {p : SlotTable T} (s : IsSlotTable p) where
  abbrev here : State T
  here = state_of p.start p.counts.peak p.slots

  given_is : (n : Name) → list_any (eq_by_cmp name_cmp n) (set.items here.given)
      ≡ given_in p.start (slice_get p.slots n.slot) n.generation
  given_is n = sym (set.contains-items here.given n) ∙ get_given p.start p.slots n

  last_of : (k : ℕ) (o : Option (Entry T)) → slice_get p.slots k ≡ o
      → IsLast (set.items here.given) k (option_map (λ e. e.generation) o)
  last_of k None none = λ n h is. let no = rw (given_is n, is, none) at h in cc
  last_of k (Some e) there = (
    rw (given_is (record { slot = k; generation = e.generation }), there)
        (let begun = rw there at (s.begun k) in grind (arith, nat_tests)),
    λ n h is. let given = rw (given_is n, is, there) at h in grind (arith, nat_tests),
  )

  pub get_last : (k : ℕ)
      → map.get (slots_of here) k ≡ option_map (λ e. e.generation) (slice_get p.slots k)
  get_last k = grind (arith, one_last, get_lasts, last_of)

  -- a test of the machine's slots that says of each what q says of its entry
  len_kept : (q : Entry T → Bool) (test : ℕ → Bool)
      → ((k : ℕ) (e : Entry T) → slice_get p.slots k ≡ Some e → test k ≡ q e)
      → map.len (map.retain_keys (slots_of here) test) ≡ how_many q p.slots
  len_kept q test same =
      len_passing q 0 p.slots _ (λ k h. absurd (omega arith))
      (λ k. let at : 0 + k ≡ k = omega arith in
      rw at (grind (arith, get-keep by_number (slots_of here) test k, get_last k, same k)))

  is_own : (k : ℕ) (e : Entry T) → slice_get p.slots k ≡ Some e
      → last_name here k ≡ record { slot = k; generation = e.generation }
  is_own k e there = grind (arith, get_last)

  live_is : (k : ℕ) (e : Entry T) → slice_get p.slots k ≡ Some e
      → is_some (map.get here.cells (last_name here k)) ≡ is_live e.kept
  live_is k e there = grind (arith, is_own, get_cells, eq-eqb, live_cell)

  free_is : (k : ℕ) (e : Entry T) → slice_get p.slots k ≡ Some e → is_free here k ≡ is_spent e
  free_is k e there = grind (arith, live_is, is_own)

  slots_are : slots here ≡ length p.slots
  slots_are =
      len_passing (λ e. true) 0 p.slots _ (λ k h. absurd (omega arith))
      (λ k. let at : 0 + k ≡ k = omega arith in rw at (grind (arith, get_last k)))
      ∙ count_all p.slots

  pub free_are : set.len p.free ≡ free here
  free_are = s.stocked ∙ sym (len_kept is_spent (is_free here) free_is)

  -- every slot is live, free or retired
  all_slots : length p.slots ≡ p.counts.usable + retired here
  all_slots =
      let lost : retired here ≡ how_many
      (λ e. not (is_live e.kept) && not (nat_lt e.generation last_generation)) p.slots =
      len_kept _ (is_retired here) (λ k e there. grind (arith, live_is, is_own)) in
      omega (arith, s.counted, s.stocked, parts p.slots)
    where
      parts : (es : List (Entry T)) → length es ≡ how_many (λ e. is_live e.kept) es
          + how_many is_spent es
          + how_many (λ e. not (is_live e.kept) && not (nat_lt e.generation last_generation)) es
      parts [] = refl
      parts (e ∷ es) = grind (arith, parts es)

  -- a new slot's first name, if no slot is free
  pub new_first : free here ≡ 0
      → IsNew here (record { slot = length p.slots; generation = p.start })
  new_first none = record {
    ungiven = get_given p.start p.slots (record { slot = length p.slots; generation = p.start })
        ∙ rw (slice_get_past p.slots (length p.slots) (omega arith)) refl;
    fits = inl (none, sym slots_are, refl);
  }

  -- the next name of a free slot
  pub new_next : (i : ℕ) (e : Entry T) → slice_get p.slots i ≡ Some e → is_spent e ≡ true
      → IsNew here (record { slot = i; generation = e.generation + 1 })
  new_next i e there spent = record {
    ungiven = get_given p.start p.slots (record { slot = i; generation = e.generation + 1 })
        ∙ rw there (grind (arith, nat_tests));
    fits = inr (
      ap is_some (get_last i) ∙ rw there refl,
      free_is i e there ∙ spent,
      ap (λ (n : Name). n.generation + 1) (sym (is_own i e there)),
    );
  }

  -- ---- the state as modelled in contracts

  module _ {S : State T} (view : here ≡ S) where
    pub slots_seen : length p.slots ≡ slots S
    slots_seen = sym slots_are ∙ ap slots view

    pub free_seen : set.len p.free ≡ free S
    free_seen = free_are ∙ ap free view

    pub all_seen : length p.slots ≡ p.counts.usable + retired S
    all_seen = all_slots ∙ ap (λ X. p.counts.usable + retired X) view

    -- a slot is made only if none is free
    pub bound_seen : slots S ≤ S.peak + retired S
    bound_seen = grind (arith, s.few, all_seen, slots_seen)

module _ {T : Type 0} where
  pub new_state : (start : ℕ) (slots : List (Entry T)) → slots ≡ []
      → state_of start 0 slots ≡ fresh 0 start 0
  unfolding cells_of given_of
  new_state start slots none = rw none refl

  pub slotted_new : (p : SlotTable T) → p.free ≡ set.empty
      → p.counts ≡ record { usable = 0; peak = 0 } → p.slots ≡ [] → IsSlotTable p
  slotted_new p unused uncounted none = record {
    pooled = λ k. rw (unused, none) (set.contains-empty nat_cmp k);
    roomy = rw none (omega arith);
    begun = λ k. rw none tt;
    counted = rw (uncounted, none)
        (let empty = ap set.len unused ∙ set.len-empty nat_cmp in omega arith);
    stocked = rw none (ap set.len unused ∙ set.len-empty nat_cmp);
    few = rw uncounted (omega arith);
    bounded = rw uncounted (omega arith);
  }

  module _ {S : State T} (start peak : ℕ) (slots : List (Entry T))
      (view : state_of start peak slots ≡ S) where
    pub fresh_of : peak ≤ length slots → length slots ≡ 0 → IsFresh S
    fresh_of bounded none =
        let unused : peak ≡ 0 = omega arith in
        rw (← view) (ap (λ p. state_of start p slots) unused
        ∙ new_state start slots (nil_from_length slots none))

    pub none_of_fresh : ((k : ℕ) → EntryHasBegun start (slice_get slots k)) → IsFresh S
        → length slots ≡ 0
    none_of_fresh begun f = at slots (begun 0) (sym (get_given start slots first)
        ∙ (ap (λ (X : State T). set.contains X.given first) (view ∙ f)
        ∙ set.contains-empty name_cmp first))
      where
        first : Name
        first = record { slot = 0; generation = start }

        at : (xs : List (Entry T)) → EntryHasBegun start (slice_get xs 0)
            → given_in start (slice_get xs 0) start ≡ false → length xs ≡ 0
        at [] b g = refl
        at (e ∷ es) b g = grind (arith, nat_tests)

-- ==== what a write to a slot, or a new slot, is in the state that the slots represent

-- ---- what is there, and what isn't

-- what passes a test that nothing passes is there
pub some_if : {A : Type 0} (test : Option A → Bool) (o : Option A) → test None ≡ false
    → test o ≡ true → is_some o ≡ true
some_if test o none h = grind arith

-- ---- a slot that is written

module _ {T : Type 0} {slots after : List (Entry T)} {i : ℕ} {t : Entry T}
    (w : IsWritten slots after i t) where
  abbrev name : Name
  name = record { slot = i; generation = t.generation }

  -- what holds of the slot that is written, and of each other one, holds of all
  each_after : (P : ℕ → Option (Entry T) → Type 0) → P i (Some t)
      → ((k : ℕ) → k ≢ i → P k (slice_get slots k)) → (k : ℕ) → P k (slice_get after k)
  each_after P own others k = grind (arith, cases_eq, w.at, eq-eqb, ne_eqb)

  -- nothing else is live in the slot
  module _ (alone : (g : ℕ) → nat_eq g t.generation ≡ false
      → cell_in (slice_get slots i) g ≡ None) where
    get_written : (q : Name) → map.get (cells_of after) q
        ≡ cond (nat_eq q.slot i && nat_eq q.generation t.generation) (cell_of t.kept)
        (map.get (cells_of slots) q)
    get_written q = grind (arith, get_cells, w.at, nat_tests)

    pub cells_put : (c : Cell T) → cell_of t.kept ≡ Some c
        → cells_of after ≡ map.insert (cells_of slots) name c
    cells_put c full = grind (arith, same_cells, get_written, name_test, get-insert_name)

    pub cells_taken : cell_of t.kept ≡ None → cells_of after ≡ map.remove (cells_of slots) name
    unfolding is_name
    cells_taken empty =
        grind (arith, same_cells, get_written, name_test, map.get-remove {X = Cell T} name_total)

  module _ (start : ℕ) where
    pub given_kept : ((g : ℕ) → given_in start (Some t) g ≡ given_in start (slice_get slots i) g)
        → given_of start after ≡ given_of start slots
    given_kept same = grind (arith, same_names, get_given, each_after)

    pub given_put : ((g : ℕ) → given_in start (Some t) g
        ≡ (nat_eq g t.generation || given_in start (slice_get slots i) g))
        → given_of start after ≡ set.insert (given_of start slots) name
    given_put more =
        grind (arith, nat_tests, same_names, get_given, contains-insert_name, name_test, w.at)

  -- the counts of references are right after it, if they are for the slot that is written, and for others
  -- as many go uncounted as before and references came
  pub referred : {less less' : Name → ℕ} → AreReferred less slots
      → ((q : Name) → q.slot ≢ i → less' q + bit (passes (refers q) (slice_get slots i))
      ≡ less q + bit (refers q t))
      → (is_shared (cell_of t.kept) ≡ true
      → t.references + less' name + bit (passes (refers name) (slice_get slots i))
      ≡ how_many (refers name) slots + bit (refers name t))
      → AreReferred less' after
  referred {less} {less'} r others own = record {
    each = each_after (IsReferred after less')
        (λ shared. let e = own shared in let c = w.count (refers name) in omega arith)
        (λ k other. still k other (slice_get slots k) (r.each k));
  }
    where
      still : (k : ℕ) → k ≢ i → (o : Option (Entry T)) → IsReferred slots less k o
          → IsReferred after less' k o
      still k other None was = tt
      still k other (Some e) was = λ shared.
          let q : Name = record { slot = k; generation = e.generation } in
          omega (arith, others q other, w.count (refers q), was shared)

  -- a slot whose count changes
  pub state_same : {e : Entry T} → slice_get slots i ≡ Some e → t.generation ≡ e.generation
      → t.kept ≡ e.kept → (start peak : ℕ) → state_of start peak after ≡ state_of start peak slots
  state_same there gen own start peak =
      let same : cells_of after ≡ cells_of slots =
      same_cells _ _ (λ q. grind (arith, nat_tests, get_cells, w.at)) in
      rw (same, given_kept start (λ g. rw (there, gen) refl)) refl

-- ---- what holds of the slots holds after a write

module _ {T : Type 0} {p : SlotTable T} (s : IsSlotTable p) {after : List (Entry T)} {i : ℕ}
    {t : Entry T} (w : IsWritten p.slots after i t) where
  -- if the counts are right
  pub slotted : (free : set.FinSet nat_cmp) (rooms : ℕ) (counts : UsableCount)
      → ((k : ℕ) → set.contains free k ≡ cond (nat_eq k i) (is_spent t) (set.contains p.free k))
      → set.len free + bit (is_reusable (slice_get p.slots i)) ≡ set.len p.free + bit (is_spent t)
      → counts.usable + bit (passes (λ e. is_live e.kept) (slice_get p.slots i))
      + bit (is_reusable (slice_get p.slots i))
      ≡ p.counts.usable + bit (is_live t.kept) + bit (is_spent t)
      → length after ≤ rooms → p.start ≤ t.generation → counts.usable ≤ counts.peak
      → counts.peak ≤ length after
      → IsSlotTable (record p { free = free; rooms = rooms; counts = counts; slots = after })
  slotted free rooms counts pooled stocked counted roomy begun few bounded = record {
    pooled = each_after w (λ k o. set.contains free k ≡ is_reusable o)
        (rw (pooled i, eq-eqb i i refl) refl)
        (λ k other. rw (pooled k, ne_eqb k i other) (s.pooled k));
    roomy = roomy;
    begun = each_after w (λ k o. EntryHasBegun p.start o) begun (λ k other. s.begun k);
    counted = let e = w.count (λ e. is_live e.kept) in let c = s.counted in omega arith;
    stocked = let e = w.count is_spent in let c = s.stocked in omega arith;
    few = few;
    bounded = bounded;
  }

  -- if the slot is live, or free, as before
  pub slotted_still : {e : Entry T} → slice_get p.slots i ≡ Some e
      → t.generation ≡ e.generation → is_live t.kept ≡ is_live e.kept
      → length after ≡ length p.slots → IsSlotTable (record p { slots = after })
  slotted_still {e} there gen lives long =
      let spent : is_spent t ≡ is_spent e = λ j. not (lives j)
      && nat_lt (gen j) last_generation in
      slotted p.free p.rooms p.counts
      (contains_own p.free i (s.pooled i ∙ rw (there, spent) refl))
      (rw (there, spent) refl) (rw (there, spent, lives) refl) (let r = s.roomy in omega arith)
      (rw gen (rw there at (s.begun i))) s.few (let b = s.bounded in omega arith)

-- ---- the slot of a live cell

-- its entry, in which this is kept
pub record IsKept {T : Type 0} (slots : List (Entry T)) (n : Name) (kept : Kept T) : Type 0 where
  pub references : ℕ
  pub there : slice_get slots n.slot
      ≡ Some (record { generation = n.generation; kept = kept; references = references })
  pub within : n.slot < length slots
  pub cell : map.get (cells_of slots) n ≡ cell_of kept

-- whatever cell it is
pub record IsFound {T : Type 0} (slots : List (Entry T)) (n : Name) : Type 0 where
  pub kept : Kept T
  pub spot : IsKept slots n kept
  pub open spot use *
  pub live : is_live kept ≡ true
  pub holds : content_of (map.get (cells_of slots) n) ≡ content_in kept

-- if it has a value or has lent one
pub record IsHeld {T : Type 0} (slots : List (Entry T)) (n : Name) : Type 0 where
  pub kind : CellKind
  pub content : Content T
  pub created : Location
  pub spot : IsKept slots n (Live kind content created)
  pub open spot use *

module _ {T : Type 0} where
  pub content_kept : (k : Kept T) → content_of (cell_of k) ≡ content_in k
  content_kept k = grind arith

  -- a cell that passes a test which nothing passes has one
  entry_of : (slots : List (Entry T)) (n : Name) (test : Option (Cell T) → Bool) → test None ≡ false
      → test (cell_under slots n) ≡ true → (e : Entry T) × (slice_get slots n.slot ≡ Some e)
      × (e.generation ≡ n.generation) × (test (cell_of e.kept) ≡ true)
  entry_of slots n test none h = grind (arith, nat_tests)

  pub found : (slots : List (Entry T)) (n : Name) (test : Option (Cell T) → Bool)
      → test None ≡ false → test (map.get (cells_of slots) n) ≡ true → IsFound slots n
  found slots n test none h =
      let it = entry_of slots n test none (rw (get_cells slots n) at h) in
      let cell : map.get (cells_of slots) n ≡ cell_of it.0.kept =
      get_cells slots n ∙ rw (it.1, eq-eqb n.generation it.0.generation (sym it.2)) refl in
      record {
        kept = it.0.kept;
        spot = record {
          references = it.0.references;
          there = it.1 ∙ (λ i. Some (record it.0 { generation = it.2 i }));
          within = slice_get_within slots n.slot _ it.1;
          cell = cell;
        };
        live = sym (live_cell it.0.kept) ∙ some_if test (cell_of it.0.kept) none it.3;
        holds = rw cell (content_kept it.0.kept);
      }

  pub held : (slots : List (Entry T)) (n : Name)
      → is_some (content_of (map.get (cells_of slots) n)) ≡ true → IsHeld slots n
  held slots n h =
      let f = found slots n (λ o. is_some (content_of o)) refl h in
      let holds = rw f.cell at h in
      let is : (kd : CellKind) × (c : Content T) × (l : Location) × (f.kept ≡ Live kd c l) = grind arith in
      record { kind = is.0; content = is.1; created = is.2; spot = rw is.3 at f.spot }

-- something else is kept in it
module _ {T : Type 0} {slots : List (Entry T)} {n : Name} {kept : Kept T} (f : IsKept slots n kept)
    (k : Kept T → Kept T) where
  abbrev pub rekept : List (Entry T)
  rekept = change_entry slots n.slot (λ e. record e { kept = k e.kept })

  abbrev rekept_entry : Entry T
  rekept_entry = record { generation = n.generation; kept = k kept; references = f.references }

  pub rekept_written : IsWritten slots rekept n.slot rekept_entry
  rekept_written = rw f.there (set_written slots n.slot rekept_entry _ f.there)

  pub rekept_length : length rekept ≡ length slots
  rekept_length = rw (f.there, length-set) refl

  -- a cell is put into the machine's map
  pub rekept_put : (c : Cell T) → cell_of (k kept) ≡ Some c
      → cells_of rekept ≡ map.insert (cells_of slots) n c
  rekept_put = cells_put rekept_written (λ g e. rw (f.there, e) refl)

  pub rekept_state : (start peak : ℕ) {cells : NameMap (Cell T)} → cells_of rekept ≡ cells
      → state_of start peak rekept ≡ record (state_of start peak slots) { cells = cells }
  rekept_state start peak is = rw (is, given_kept rekept_written start (λ g. rw f.there refl)) refl

module _ {T : Type 0} {slots : List (Entry T)} {n : Name} (f : IsHeld slots n)
    (h : Content T → Content T) where
  abbrev pub changed : List (Entry T)
  changed = rekept f.spot (with_cell_content h)

  -- another content is the machine's
  pub state_changed : (start peak : ℕ)
      → state_of start peak changed ≡ fill (state_of start peak slots) n (h f.content)
  state_changed start peak =
      let own = live_cells f.kind f.content (h f.content) f.created in
      rw (changed_there by_name (cells_of slots) n (refill (h f.content)) own.0 (f.cell ∙ own.1))
      (rekept_state f.spot (with_cell_content h) start peak (rekept_put f.spot (with_cell_content h) _ own.2))
    where
      live_cells : (k : CellKind) (c d : Content T) (l : Location) → (x : Cell T)
          × (cell_of (Live k c l) ≡ Some x) × (cell_of (Live k d l) ≡ Some (refill d x))
      live_cells kind.Value c d l = (_, refl, refl)
      live_cells kind.Shared c d l = (_, refl, refl)

  pub referred_changed : {less : Name → ℕ} → AreReferred less slots → AreReferred less changed
  referred_changed r = referred (rekept_written f.spot (with_cell_content h)) r
      (λ q other. rw f.there (grind arith))
      (λ shared. let own = rw f.there at (r.each n.slot) in rw f.there (grind (arith, own)))

module _ {T : Type 0} {slots : List (Entry T)} {n : Name} (f : IsFound slots n) where
  -- an end of a slot's cell takes its name out of the machine's map
  abbrev pub ended : List (Entry T)
  ended = rekept f.spot (λ k. Empty)

  pub cells_ended : cells_of ended ≡ map.remove (cells_of slots) n
  cells_ended = cells_taken (rekept_written f.spot (λ k. Empty)) (λ g e. rw (f.there, e) refl) refl

-- ---- what holds of the slots holds after these changes

module _ {T : Type 0} {p : SlotTable T} (s : IsSlotTable p) where
  -- the counts with one usable slot less
  abbrev pub lowered : UsableCount
  lowered = record p.counts { usable = p.counts.usable - 1 }

  module _ {n : Name} (f : IsFound p.slots n) where
    pub some_live : 1 ≤ p.counts.usable
    some_live =
        let c = rw (f.there, f.live) at ((rekept_written f.spot (λ k. Empty)).count (λ e. is_live e.kept)) in
        let l = s.counted in omega arith

    pub not_pooled : set.contains p.free n.slot ≡ false
    not_pooled = s.pooled n.slot ∙ rw (f.there, f.live) refl

    slotted_by : (now : set.FinSet nat_cmp) (left : ℕ) (spent : Bool)
        → (nat_lt n.generation last_generation) ≡ spent
        → ((k : ℕ) → set.contains now k ≡ cond (nat_eq k n.slot) spent (set.contains p.free k))
        → set.len now ≡ set.len p.free + bit spent → left + 1 ≡ p.counts.usable + bit spent
        → left ≤ p.counts.usable
        → IsSlotTable (record p {
          free = now;
          counts = record p.counts { usable = left };
          slots = ended f;
        })
    slotted_by now left spent is pooled stocked counted fewer =
        let same = rekept_length f.spot (λ k. Empty) in
        slotted s (rekept_written f.spot (λ k. Empty)) now p.rooms (record p.counts { usable = left })
        (λ k. rw is (pooled k))
        (rw (f.there, f.live, is) (omega arith)) (rw (f.there, f.live, is) (omega arith))
        (let r = s.roomy in omega arith)
        (rw f.there at (s.begun n.slot)) (let few = s.few in omega arith)
        (let b = s.bounded in omega arith)

    pub slotted_freed : n.generation < last_generation
        → IsSlotTable (record p { free = set.insert p.free n.slot; slots = ended f })
    slotted_freed below =
        let more : set.len (set.insert p.free n.slot) ≡ set.len p.free + 1 =
        set.len-insert nat_cmp_total p.free n.slot ∙ rw not_pooled refl in
        slotted_by (set.insert p.free n.slot) p.counts.usable true
        (lt-ltb n.generation last_generation below)
        (contains-insert_at p.free n.slot) more refl (omega arith)

    -- a slot whose cell had the last generation is retired
    pub slotted_retired : last_generation ≤ n.generation
        → IsSlotTable (record p { counts = lowered; slots = ended f })
    slotted_retired last =
        let one = some_live in
        slotted_by p.free (p.counts.usable - 1) false (le-ltb n.generation last_generation last)
        (contains_own p.free n.slot not_pooled) (omega arith) (omega arith) (omega arith)

-- one more of the slots that were made is retired
pub one_retired : (r now : Retirements) (made : ℕ) → now.retired ≡ r.retired + 1
    → now.before ≡ (usable_count r made).peak
    → usable_count now made
    ≡ record { usable = (usable_count r made).usable - 1; peak = (usable_count r made).peak }
one_retired r now made more most = grind arith

-- what holds of a store's slots, and of the room for them
abbrev pub Invariant : {T : Type 0} → set.FinSet nat_cmp → ℕ → ℕ → Retirements → EntryList T
    → Type 0
Invariant free rooms start r entries = IsSlotTable (record {
  free = free;
  rooms = rooms;
  start = start;
  counts = usable_count r (length entries.slots);
  slots = entries.slots;
})
    × (rooms ≤ entries.rooms) × AreReferred (λ m. 0) entries.slots
    × (r.retired ≤ length entries.slots)

-- it holds with another content
pub invariant_changed : {T : Type 0} {free : set.FinSet nat_cmp} {rooms start : ℕ}
    (r : Retirements) {before after : EntryList T} {n : Name} (f : IsHeld before.slots n)
    (h : Content T → Content T) → Invariant free rooms start r before
    → after.slots ≡ changed f h → after.rooms ≡ before.rooms → Invariant free rooms start r after
invariant_changed r f h inv slots rooms =
    let long = rekept_length f.spot (with_cell_content h) in rw (slots, rooms, long) (
      slotted_still inv.0 (rekept_written f.spot (with_cell_content h)) f.there refl refl long,
      inv.1,
      referred_changed f h inv.2,
      inv.3,
    )

-- ---- the state as modelled in contracts

pub state_is : {T : Type 0} {S : State T} {spare : ℕ} {now : SlotsState T}
    → record { state = S; spare = spare } ≡ now → S ≡ now.state
state_is view = ap (λ (x : SlotsState _). x.state) view

-- the slot of a content that the state sees
pub record IsSeen {T : Type 0} (slots : List (Entry T)) (S : State T) (n : Name) : Type 0 where
  pub held : IsHeld slots n
  pub open held use *
  pub seen : content_at S n ≡ Some content

-- a target that is live, and shared
abbrev pub shared_target : {T : Type 0} → List (Entry T) → Option Name → Option Name
shared_target slots None = None
shared_target slots (Some m) = cond (is_shared (cell_under slots m)) (Some m) None

module _ {T : Type 0} {now : SlotsState T} {start peak spare : ℕ} (slots : List (Entry T))
    (view : record { state = state_of start peak slots; spare = spare } ≡ now) where
  pub cell_seen : (n : Name) → cell_under slots n ≡ map.get now.state.cells n
  cell_seen n = rw (← view) (sym (get_cells slots n))

  -- what a name refers to
  pub target_told : (n : Name) {o : Option Name} → o ≡ target_name_in (cell_under slots n)
      → o ≡ target_name_in (map.get now.state.cells n)
  target_told n told = told ∙ ap target_name_in (cell_seen n)

  -- a shared value that a cell names is live if the slots have it
  pub live_seen : (c : Option (Cell T))
      → live_target now.state.cells c ≡ shared_target slots (target_name_in c)
  live_seen a0 = grind (arith, cell_seen)

  -- if the slots have no content there, the state has none
  pub not_told : (n : Name) → false ≡ is_some (content_of (cell_under slots n))
      → content_at now.state n ≡ None
  not_told n h = let seen = cell_seen n in grind arith

module _ {T : Type 0} {now : SlotsState T} {start peak spare : ℕ} {slots : List (Entry T)}
    (view : record { state = state_of start peak slots; spare = spare } ≡ now) where
  pub found_in : {n : Name} → is_some (map.get now.state.cells n) ≡ true → IsFound slots n
  found_in {n} h = found slots n is_some refl (rw (← view) at h)

  pub created_in : {n : Name} → IsFound slots n → {l : Location}
      → IfSome (slice_get slots n.slot) (λ e. IfSome (location_of (cell_of e.kept)) (λ k. l ≡ k))
      → location_of (map.get now.state.cells n) ≡ Some l
  created_in f {l} h = rw (← view, f.cell)
      (let own = rw f.there at h in let live = f.live in grind arith)

  pub held_in : {n : Name} → is_some (content_at now.state n) ≡ true → IsSeen slots now.state n
  held_in {n} h =
      let f = held slots n (rw (← view) at h) in
      record { held = f; seen = rw (← view, f.cell) (content_kept (Live f.kind f.content f.created)) }

  -- a slot holds a content that the slots have
  pub held_told : {n : Name} → true ≡ is_some (content_of (cell_under slots n))
      → IsSeen slots now.state n
  held_told {n} h = held_in (rw (cell_seen slots view n) at (sym h))

  -- and one without borrows
  pub free_in : {n : Name} → has_no_borrow (content_at now.state n) ≡ true
      → IsSeen slots now.state n
  free_in free = held_in (some_if has_no_borrow _ refl free)

-- another content, for what the state sees
pub changed_state : {T : Type 0} {now : SlotsState T} {start spare : ℕ} (r : Retirements)
    {slots after : List (Entry T)} {n : Name}
    → record { state = state_of start (usable_count r (length slots)).peak slots; spare = spare } ≡ now
    → (f : IsSeen slots now.state n) (h : Content T → Content T) → after ≡ changed f.held h
    → state_of start (usable_count r (length after)).peak after ≡ fill now.state n (h f.content)
changed_state r view f h is =
    rw (is, rekept_length f.spot (with_cell_content h), ← view) (state_changed f.held h _ _)

-- what holds of a result's two ways
pub either : {A E : Type 0} (r : Result A E) {P Q X : Type 0} → OnOk r P → OnErr r Q → (P → X)
    → (Q → X) → X
either r ok err f h = grind arith

-- what holds in both cases, if an error returns a value
pub returned : {T U : Type 0} (v : T) (r : Result U T) {P Q X : Type 0} → OnOk r P
    → IfErr r (λ back. (back ≡ v) × Q) → (P → X) → (Q → X) → X
returned v r ok err f h = grind arith
