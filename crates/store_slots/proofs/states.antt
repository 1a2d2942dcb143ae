-- What calls of the store are in the state.
pub mod Counting
use Rattle.generational_core.specs.Plain.{plain}
use Rattle.std.proofs.Math.Seq.{drop-append_seam, take-nil, take-suc}
use Rattle.std.proofs.{Common.add-one, lemmas.Option.get_or_from_slice_get, lemmas.List.length-take}
use Rattle.std.proofs.{lemmas.List.length-take-le, Common.map as list_map, Common.◌⊎◌}
use Rattle.store_rows.proofs.Unpacking.{unpack_grows, unpack_snoc, whole_snoc}
use Rattle.store_rows.specs.{Past.ArePastSlots, Past.IsPastSlot}
use Rattle.store_rows.specs.{declared.packed.PackedSlot.PackedSlot, Past.WasMadeAt, Packed.whole_of}
use Rattle.store_slots.specs.Packing.{ArePacked, ArePastOf, AreRenewed, IsOf, IsPastOf, IsSmall}
use Rattle.store_slots.specs.Packing.{Packs, WasMadeIn}
use Rattle.std.specs.FinMap as map
use Rattle.std.specs.FinSet as set
use Rattle.store_rows.specs.declared.packed.PackedSlot.TheVariants as packed
unfoldable pub use Counting.*

-- ==== what the box of a name reaches, by the slots and by the state

-- whether a name has a target, by the store
pub has_target : {A B : Type 0} (f : A → B) (o : Option A) {p : Option B} {b : Bool}
    → option_map f o ≡ p → is_some o ≡ b → is_some p ≡ b
has_target f o same h = grind arith

-- the slot of a content that the state sees by way of a name, and what else holds of it
pub record IsSeenBy {T : Type 0} (slots : List (Entry T)) (S : State T) (n m : Name)
    (P : Content T → Type 0) : Type 0 where
  pub place : IsSeen slots S m
  pub open place use *
  pub so : P content

-- what a box reaches, and whether that is shared
abbrev pub IsLed : {T : Type 0} → List (Entry T) → State T → Name → CellName × Bool → Type 0
IsLed slots S n (m, shared) = IsSeenBy slots S n (name_of_cell m) (λ c.
    (reached S n ≡ Some (name_of_cell m)) × (shared ≡ is_shared (map.get S.cells (name_of_cell m))))

module _ {T : Type 0} where
  -- a shared cell has a content
  pub shared_content : (o : Option (Cell T)) → is_shared o ≡ true → is_some (content_of o) ≡ true
  shared_content o h = grind arith

  -- in linked cells there is something at what a name refers to, and what goes with a name
  module _ (S : State T) (linked : IsLinked S.cells) (n m : Name) where
    reached_there : Some m ≡ reached S n → is_some (content_at S m) ≡ true
    reached_there to = grind (arith, shared_content, linked.targets)

    ending_there : Some m ≡ would_end (is_named (map.remove S.cells n)) (map.get S.cells n) n
        → is_some (content_at S m) ≡ true
    ending_there to = grind (arith, shared_content, linked.targets)

  module _ {now : SlotsState T} {start peak spare : ℕ} (slots : List (Entry T))
      (view : record { state = state_of start peak slots; spare = spare } ≡ now) where
    -- what the slots lead to is what the state has
    pub reached_seen : (n : Name) {o : Option Name} → o ≡ leads_to (cell_under slots n) n
        → o ≡ reached now.state n
    reached_seen n to = rw (cell_seen slots view n) at to

    -- whether a cell is a value without borrows that isn't shared, as the state sees it
    pub unborrowed_told : (n : Name) {b d : Bool} → b ≡ is_unborrowed_value (cell_under slots n)
        → b ≡ d → is_unborrowed_value (map.get now.state.cells n) ≡ d
    unborrowed_told n is free = sym (rw (cell_seen slots view n) at is) ∙ free

    -- such a value is reached by its own box, and ends alone
    pub free_told : (n : Name) → IsLinked now.state.cells → {b : Bool}
        → b ≡ is_unborrowed_value (cell_under slots n) → b ≡ true → EndsFree now.state n
    free_told n linked is free = free_ends now.state linked (unborrowed_told n is free)

    pub none_reached : (n : Name) → None ≡ leads_to (cell_under slots n) n
        → has_no_borrow (content_reached now.state (reached now.state n)) ≡ true → ⊥
    none_reached n to free = let none = rw (← reached_seen n to) at free in cc

  module _ {now : SlotsState T} {start peak spare : ℕ} {slots : List (Entry T)}
      (view : record { state = state_of start peak slots; spare = spare } ≡ now) where
    -- what a box of a name reaches, a slot holds
    pub reached_in : IsLinked now.state.cells → {n m : Name}
        → Some m ≡ leads_to (cell_under slots n) n
        → IsSeenBy slots now.state n m (λ c. reached now.state n ≡ Some m)
    reached_in linked {n} {m} to =
        let leads = reached_seen slots view n to in
        record { place = held_in view (reached_there now.state linked n m leads); so = sym leads }

    -- and one without borrows
    pub free_reached : {n m : Name} → Some m ≡ leads_to (cell_under slots n) n
        → has_no_borrow (content_reached now.state (reached now.state n)) ≡ true
        → IsSeenBy slots now.state n m
        (λ c. (reached now.state n ≡ Some m) × (has_no_borrow (Some c) ≡ true))
    free_reached {n} to unborrowed =
        let leads = reached_seen slots view n to in
        let free = rw (← leads) at unborrowed in
        let f = free_in view free in record { place = f; so = (sym leads, rw f.seen at free) }

    -- what goes with a name
    pub ending_in : IsLinked now.state.cells → {n m : Name}
        → Some m ≡ would_end (is_named (map.remove now.state.cells n)) (map.get now.state.cells n) n
        → IsSeenBy slots now.state n m
        (λ c. hindrance_to now.state (n ∷ []) ≡ write_refusal (Some c))
    ending_in linked {n} {m} to =
        let f = held_in view (ending_there now.state linked n m to) in
        record { place = f; so = ending_hinders now.state n linked _ to ∙ ap write_refusal f.seen }

  -- a reference leads to what it names, which is shared, and what names nothing to itself
  pub led_by : {now : SlotsState T} {start peak spare : ℕ} {slots : List (Entry T)}
      → record { state = state_of start peak slots; spare = spare } ≡ now → IsLinked now.state.cells
      → (n : Name) (led : CellName × Bool)
      → Some (name_of_cell led.0) ≡ leads_to (cell_under slots n) n
      → led.1 ≡ is_some (target_name_in (cell_under slots n)) → IsLed slots now.state n led
  led_by {slots = slots} view linked n led leads names =
      let way = reached_in view linked leads in
      let seen = cell_seen slots view n in
      let shared = linked.targets n (name_of_cell led.0) in
      record { place = way.place; so = (way.so, grind arith) }

-- ==== what hinders the end of names, by the counts of references, and the end of a list of values
-- without borrows

module _ {T : Type 0} (slots : List (Entry T)) (named : Name → Bool) where
  -- what hinders the end of a name, and of names
  abbrev own : Name → Option BorrowRefusal
  own n = borrowed_end (cells_of slots) named (map.get (cells_of slots) n)

  abbrev pub all : List Name → Option BorrowRefusal
  all names = first_borrowed_end (cells_of slots) named names

  -- whether a cell is a shared value that is named still
  abbrev pub lives : Name → Bool
  lives m = is_shared (cell_under slots m) && named m

  -- a name that reaches no borrowed value, or one that stays live, is hindered by nothing
  free_own : (n : Name) (o : Option Name) → o ≡ borrowed_at slots n → IfSome o (λ m. lives m ≡ true)
      → own n ≡ None
  free_own n o reached spared = grind (arith, get_cells, and_parts)

  -- one that reaches another is hindered by the borrows there, whatever comes after
  ending_own : HasTargets (cells_of slots) → (n m : Name) → Some m ≡ borrowed_at slots n
      → lives m ≡ false → (rest : Option BorrowRefusal)
      → option_or (own n) rest ≡ refusal_of (cells_of slots) (Some m)
  ending_own targets n m reached dies rest = grind (arith, get_cells, named_shared)

  -- the names of a list from the i-th on
  module _ (items : List CellName) (i : ℕ) (none : CellName) (within : i < length items) where
    abbrev names : List Name
    names = list_map name_of_cell items

    abbrev name : Name
    name = name_of_cell (slice_index_or items i none)

    -- what hinders the i-th hinders them, or what comes after
    rest_of : all (drop i names) ≡ option_or (own name) (all (drop (i + 1) names))
    rest_of =
        at_drop_more all names i (name_of_cell none) (omega (arith, length-map items name_of_cell))
        ∙ rw (get_or-map name_of_cell items i none) refl

    -- if it reaches no borrowed value, or one that stays live, it is what comes after
    pub passed : (o : Option Name) → o ≡ borrowed_at slots name → IfSome o (λ m. lives m ≡ true)
        → all (drop (i + 1) names) ≡ all (drop i names)
    passed o reached spared = rw (rest_of, free_own name o reached spared) refl

    -- and if it reaches one that goes, it is this
    pub stopped : HasTargets (cells_of slots) → (m : Name) → Some m ≡ borrowed_at slots name
        → lives m ≡ false → all (drop i names) ≡ refusal_of (cells_of slots) (Some m)
    stopped targets m reached dies = rest_of ∙ ending_own targets name m reached dies _

module _ {T : Type 0} where
  -- how many of the names that end refer to a value determines whether it stays live
  pub living : (slots : List (Entry T)) (names : List Name) → AreReferred (λ m. 0) slots
      → IsDistinct is_name names → (m : Name) (t : HasShared slots m)
      → nat_lt (refers_among slots names m) t.references
      ≡ (is_shared (cell_under slots m) && is_named (take_away (cells_of slots) names) m)
  living slots names referred apart m t =
      grind (arith, references_of, get_cells, t.cell, t.shared, named_after)

  -- the value that goes when one name ends
  pub ending_alone : (slots : List (Entry T)) → HasTargets (cells_of slots)
      → AreReferred (λ m. 0) slots → (n : Name)
      → would_end (has_other_count slots 1) (cell_under slots n) n
      ≡ would_end (is_named (map.remove (cells_of slots) n)) (map.get (cells_of slots) n) n
  ending_alone slots targets referred n =
      grind (arith, nat_tests, get_cells, has_shared, references_of, named_without)

-- the slot of what a name reaches
pub record IsLive {T : Type 0} (slots : List (Entry T)) (n m : Name) : Type 0 where
  pub slot : IsFound slots m
  pub open slot use *
  pub leads : leads_to (map.get (cells_of slots) n) n ≡ Some m

module _ {T : Type 0} {slots : List (Entry T)} where
  -- what fails is live
  pub refused_live : {m : Name} → is_some (refusal_of (cells_of slots) (Some m)) ≡ true
      → IsFound slots m
  refused_live {m} refused =
      found slots m (λ cell. is_some (write_refusal (content_of cell))) refl refused

  pub reached_live : HasTargets (cells_of slots) → {n m : Name}
      → Some m ≡ leads_to (cell_under slots n) n → IsLive slots n m
  reached_live targets {n} {m} leads =
      let own = get_cells slots n in
      record {
        slot = found slots m is_some refl (grind (arith, named_shared slots targets n));
        leads = rw own (sym leads);
      }

module _ {T : Type 0} (slots : List (Entry T)) where
  -- nothing hinders a list of names of values of their own without borrows
  pub none_hindered : (named : Name → Bool) (items : List CellName)
      → list_all (λ n. is_unborrowed_value (cell_under slots (name_of_cell n))) items ≡ true
      → all slots named (list_map name_of_cell items) ≡ None
  none_hindered named [] free = refl
  none_hindered named (item ∷ items) free =
      let both = and_parts (is_unborrowed_value (cell_under slots (name_of_cell item))) _ free in
      let rest = none_hindered named items both.1 in grind (arith, get_cells)

-- ---- the end of the names of a list, one after the other

module _ {T : Type 0} where
  -- what is left of a list whose first names have ended: with it the end of all is reached
  pub record AreLeft (S : State T) (names : List Name) (end : State T) : Type 0 where
    pub linked : IsLinked S.cells
    pub ends : close S names ≡ end

  -- if none is left, the end is reached
  pub left_none : {S end : State T} → AreLeft S [] end → S ≡ end
  left_none {S} left = grind (arith, close_nothing)

  -- when the first has ended the rest is left
  pub left_rest : {S end : State T} {n : Name} {names : List Name} → AreLeft S (n ∷ names) end
      → AreLeft (close S (n ∷ [])) names end
  left_rest {S} {n = n} {names = names} left = record {
    linked = closing_linked S.cells (n ∷ []) left.linked;
    ends = rw (← close_each S.cells n names) left.ends;
  }

  -- values that aren't shared and have no borrow
  abbrev pub are_unborrowed : State T → List CellName → Bool
  are_unborrowed S items =
      list_all (λ n. is_unborrowed_value (map.get S.cells (name_of_cell n))) items

  -- such values are left, and no two are the same
  pub record AreFree (S : State T) (items : List CellName) (end : State T) : Type 0 where
    pub left : AreLeft S (list_map name_of_cell items) end
    pub free : are_unborrowed S items ≡ true
    pub apart : IsDistinct is_name (list_map name_of_cell items)

  module _ {S end : State T} {item : CellName} {items : List CellName}
      (f : AreFree S (item ∷ items) end) where
    abbrev n : Name
    n = name_of_cell item

    -- the first is a value without borrows
    pub free_first : EndsFree S n
    free_first = free_ends S f.left.linked (and_parts _ _ f.free).0

    others : (items : List CellName)
        → AllByRecursion (λ q. is_name n q ≡ false) (list_map name_of_cell items)
        → are_unborrowed (record S { cells = map.remove S.cells n }) items ≡ are_unborrowed S items
    others [] apart = refl
    others (i ∷ items) apart =
        grind (arith, get-remove_apart, by_name, name_here, others items apart.1)

    -- when it has ended the rest is left
    pub free_rest : AreFree (record S { cells = map.remove S.cells n }) items end
    free_rest = record {
      left = rw (free_first.closes) (left_rest f.left);
      free = others items (IsDistinct-head is_name n (list_map name_of_cell items) f.apart)
          ∙ (and_parts _ _ f.free).1;
      apart = IsDistinct-tail is_name n (list_map name_of_cell items) f.apart;
    }

  module _ {now : SlotsState T} {start peak spare : ℕ} (slots : List (Entry T))
      (view : record { state = state_of start peak slots; spare = spare } ≡ now)
      (items : List CellName)
      (free : list_all (λ n. is_unborrowed_value (cell_under slots (name_of_cell n))) items ≡ true)
    where
      -- the state has such values if the slots do
      pub unborrowed_seen : are_unborrowed now.state items ≡ true
      unborrowed_seen =
          (λ i. list_all (λ n. is_unborrowed_value
          (sym (cell_seen slots view (name_of_cell n)) i)) items) ∙ free

      -- and nothing hinders their end
      pub unborrowed_free : IsLinked now.state.cells
          → hindrance_to now.state (list_map name_of_cell items) ≡ None
      unborrowed_free linked = grind (arith, state_is, hindrance_is, first_hindered, none_hindered)

-- ==== another cell: in a free slot, or in a new one

-- another slot is made
pub one_made : (r : Retirements) (made : ℕ) → r.retired ≤ made → usable_count r (made + 1)
    ≡ record {
      usable = (usable_count r made).usable + 1;
      peak = max (usable_count r made).peak ((usable_count r made).usable + 1);
    }
one_made r made few = grind arith

module _ {T : Type 0} {p : SlotTable T} (s : IsSlotTable p) where
  -- the state that the slots represent
  abbrev before : State T
  before = state_of p.start p.counts.peak p.slots

  -- how many cells are live
  abbrev many : ℕ
  many = how_many (λ e. is_live e.kept) p.slots

  -- the counts with one usable slot more
  abbrev pub raised : UsableCount
  raised = record {
    usable = p.counts.usable + 1;
    peak = max p.counts.peak (p.counts.usable + 1);
  }

  -- ---- a slot that is free

  module _ (i : ℕ) (member : set.contains p.free i ≡ true) where
    -- its entry
    free_slot : (e : Entry T) × (slice_get p.slots i ≡ Some e) × (e.kept ≡ Empty)
        × (nat_lt e.generation last_generation ≡ true)
    free_slot = let usable = sym (s.pooled i) ∙ member in grind arith

    pub taken_within : i < length p.slots
    taken_within = slice_get_within p.slots i _ free_slot.1

    -- one free slot less
    pub taken_less : set.len (set.remove p.free i) + 1 ≡ set.len p.free
    taken_less =
        let own = free_slot in
        let some = many_some is_spent p.slots i own.0 own.1 (rw own.2 own.3) in
        let less = rw member at (set.len-remove nat_cmp_total p.free i) in
        let stocked = s.stocked in omega arith

    -- a free slot is none of the live ones
    peak_stays : max p.counts.peak (many + 1) ≡ p.counts.peak
    peak_stays = grind (arith, taken_less, s.counted, s.few)

-- ---- another content, without borrows, whose target is shared

-- slots after it was put into one, under this name, while the target doesn't count it yet; and once that
-- does, with how many they are then
pub record IsPut {T : Type 0} (S : State T) (d : SlotData T) (l : Location) (q : SlotTable T)
    (n : Name) (size : ℕ) : Type 0 where
  pub fits : IsNew S n
  pub uncounted : IsUncounted q.slots (target_name_of d)
  pub added : IfSome (cell_of (kept_data [] l d))
      (λ c. state_of q.start q.counts.peak (count_more q.slots (target_name_of d)) ≡ add_cell S n c)
  pub long : length (count_more q.slots (target_name_of d)) ≡ size
  pub table : IsSlotTable (record q { slots = count_more q.slots (target_name_of d) })
  pub referred : AreReferred (λ m. 0) (count_more q.slots (target_name_of d))

module _ {T : Type 0} (d : SlotData T) (l : Location) where
  abbrev entry : ℕ → Entry T
  entry g = record { generation = g; kept = kept_data [] l d; references = 0 }

  lives_kept : IsUnborrowed d → is_live (kept_data [] l d) ≡ true
  lives_kept free = sym (live_cell (kept_data [] l d)) ∙ ap is_some (unborrowed_cell d l free).1

module _ {T : Type 0} {p : SlotTable T} (s : IsSlotTable p) (r : AreReferred (λ m. 0) p.slots)
    {S : State T} (view : state_of p.start p.counts.peak p.slots ≡ S) (linked : HasTargets S.cells)
    (d : SlotData T) (l : Location) (unborrowed : IsUnborrowed d)
    (target : IfSome (target_name_of d) (λ m. is_shared (map.get S.cells m) ≡ true)) where
  -- in a slot that had no cell
  is_put : (free : set.FinSet nat_cmp) (counts : UsableCount) (slots' : List (Entry T)) (i g size : ℕ)
      → counts.peak ≡ max p.counts.peak (many s + 1) → IsWritten p.slots slots' i (entry d l g)
      → ((h : ℕ) → cell_in (slice_get p.slots i) h ≡ None)
      → passes (λ e. is_live e.kept) (slice_get p.slots i) ≡ false
      → ((h : ℕ) → (leb p.start h && leb h g)
      ≡ (nat_eq h g || given_in p.start (slice_get p.slots i) h))
      → IsNew (before s) (record { slot = i; generation = g }) → length slots' ≡ size
      → IsSlotTable (record p { free = free; counts = counts; slots = slots' })
      → IsPut S d l (record p { free = free; counts = counts; slots = slots' })
      (record { slot = i; generation = g }) size
  is_put free counts slots' i g size most w empty dead more new long table =
      let cell = unborrowed_cell d l unborrowed in
      let e = rw (dead, lives_kept d l unborrowed) at (w.count (λ e. is_live e.kept)) in
      let n = len_cells slots' in
      let same : counts.peak ≡ max p.counts.peak (map.len (cells_of slots')) = omega arith in
      let cells = cells_put w (λ h e. empty h) cell.0 cell.1 in
      let given = given_put w p.start more in
      let again = counted_up slots' (target_name_of d) in
      let recounted = again.state p.start counts.peak in
      let uncounted = uncounted_made d l w dead r (rw (← view) at linked) (rw (← view) at target) in
      record {
        fits = rw (← view) new;
        uncounted = uncounted;
        added = rw (recounted, cell.1, ← view, same, cells, given) refl;
        long = again.long ∙ long;
        table = again.table table;
        referred = counted_more _ uncounted;
      }

  -- in one that is used again
  pub reuses : {i : ℕ} (member : set.contains p.free i ≡ true) {g : ℕ}
      → IfSome (slice_get p.slots i) (λ e. g ≡ e.generation + 1) → IsPut S d l
      (record p { free = set.remove p.free i; slots = slice_set p.slots i (entry d l g) })
      (record { slot = i; generation = g }) (length p.slots)
  reuses {i} member {g} is =
      let own = free_slot s i member in
      let live = lives_kept d l unborrowed in
      let next : g ≡ own.0.generation + 1 = rw own.1 at is in
      let since : p.start ≤ own.0.generation = rw own.1 at (s.begun i) in
      let w = set_written p.slots i (entry d l g) _ own.1 in
      let long : length (slice_set p.slots i (entry d l g)) ≡ length p.slots = length-set p.slots i _ in
      let less = taken_less s i member in
      let some = rw (own.1, own.2, own.3, live) at (w.count is_spent) in
      let stocked = s.stocked in let b = s.bounded in let r = s.roomy in
      is_put (set.remove p.free i) p.counts _ i g _ (sym (peak_stays s i member)) w
      (λ h. rw (own.1, own.2) (cond_same _ None)) (rw (own.1, own.2) refl)
      (λ h. rw own.1 (grind (arith, nat_tests)))
      (rw next (new_next s i _ own.1 (rw own.2 own.3))) long
      (slotted s w (set.remove p.free i) p.rooms p.counts
      (λ k. rw live (contains-remove_at p.free i k))
      (rw (own.1, own.2, own.3, live) (omega arith))
      (rw (own.1, own.2, own.3, live) (omega arith)) (omega arith) (omega arith) s.few
      (omega arith))

  -- in another slot
  pub pushes : free S ≡ 0 → 0 < set.len p.free + (p.rooms - length p.slots)
      → IsPut S d l (record p { counts = raised s; slots = p.slots ++ entry d l p.start ∷ [] })
      (record { slot = length p.slots; generation = p.start }) (length p.slots + 1)
  pushes full room =
      let live = lives_kept d l unborrowed in
      let unused = free_seen s view ∙ full in
      let none = set.empty_of_len p.free unused in
      let past : slice_get p.slots (length p.slots) ≡ None =
      slice_get_past p.slots (length p.slots) (omega arith) in
      let w = push_written p.slots (entry d l p.start) in
      let long : length (p.slots ++ entry d l p.start ∷ []) ≡ length p.slots + 1 =
      length-append p.slots _ in
      let few = s.few in let b = s.bounded in let counted = s.counted in
      is_put p.free (raised s) _ (length p.slots) p.start _ (omega arith) w (λ h. rw past refl)
      (rw past refl) (λ h. rw past (grind (arith, nat_tests)))
      (new_first s (sym (free_are s) ∙ unused)) long
      (slotted s w p.free p.rooms (raised s)
      (λ k. rw (live, none, set.contains-empty nat_cmp k)
      (sym (cond_same (nat_eq k (length p.slots)) false))) (rw (past, live) refl)
      (rw (past, live) (omega arith)) (omega arith) (omega arith) (omega arith) (omega arith))

-- ==== the rows of the slots: that they are in the order of the machine's slots, and what reads them back

module _ {A : Type 0} where
  -- ---- one slot after the other

  pub rows_more : (number i k : ℕ) (es : List (Entry A)) (e : Entry A) → slice_get es k ≡ Some e
      → rows_from number i (take (suc k) es)
      ≡ rows_from number i (take k es) ++ entry_rows number (i + k) e
  rows_more number i k [] e there = cc
  rows_more number i zero (x ∷ es) e there = grind (arith, append-nil)
  rows_more number i (suc k) (x ∷ es) e there =
      grind (arith, append_assoc, rows_more number (i + 1) k es e there)

  -- ---- the machine's slots

  numbered : ℕ → List (Entry A) → List (ℕ × ℕ)
  numbered i [] = []
  numbered i (e ∷ es) = (i, e.generation) ∷ numbered (i + 1) es

  find_numbered : (i : ℕ) (es : List (Entry A)) (q k : ℕ) → q ≡ i + k
      → map.find nat_cmp q (numbered i es) ≡ option_map (λ e. e.generation) (slice_get es k)
  unfolding numbered
  find_numbered i [] q k is = refl
  find_numbered i (e ∷ es) q zero is = grind (arith, nat_tests, number_test)
  find_numbered i (e ∷ es) q (suc k) is =
      grind (arith, nat_tests, number_test, find_numbered (i + 1) es q k)

  below_numbered : (x i : ℕ) (es : List (Entry A)) → x < i
      → T (map.Entries.below_all nat_cmp x (numbered i es))
  unfolding numbered
  below_numbered x i [] below = tt
  below_numbered x i (e ∷ es) below =
      rw (lt-ltb x i below) (below_numbered x (i + 1) es (omega arith))

  rising : (i : ℕ) (es : List (Entry A)) → T (map.is_sorted nat_cmp (numbered i es))
  unfolding numbered
  rising i [] = tt
  rising i (e ∷ es) =
      let below = below_numbered i (i + 1) es (omega arith) in let rest = rising (i + 1) es in grind arith

  rows_numbered : (number : ℕ) (slots : List (Entry A)) (i : ℕ) (es : List (Entry A))
      → ((k : ℕ) → slice_get slots (i + k) ≡ slice_get es k)
      → slot_rows number (cells_of slots) (numbered i es) ≡ rows_from number i es
  unfolding numbered
  rows_numbered number slots i [] same = refl
  rows_numbered number slots i (e ∷ es) same =
      let there : slice_get slots i ≡ Some e = ap (slice_get slots) (omega arith) ∙ same 0 in
      let rest = rows_numbered number slots (i + 1) es
      (λ k. ap (slice_get slots) (omega arith) ∙ same (suc k)) in
      grind (arith, nat_tests, get_cells)

  -- ---- reading back

  give_all : ℕ → List (Entry A) → Names → Names
  give_all i [] given = given
  give_all i (e ∷ es) given = give_all (i + 1) es (give_up_to i e.generation given)

  slots_read : (number i : ℕ) (es : List (Entry A)) (P : Plain)
      → read_rows P (rows_from number i es)
      ≡ record P {
        cells = put P.cells (list_map bare_entry (live_from i es));
        given = give_all i es P.given;
      }
  unfolding give_all
  slots_read number i [] P = refl
  slots_read number i (e ∷ es) P =
      at (slots_read number (i + 1) es) (record P { given = give_up_to i e.generation P.given })
      (record { slot = i; generation = e.generation }) (cell_of e.kept)
    where
      at : ((Q : Plain) → read_rows Q (rows_from number (i + 1) es) ≡ record Q {
        cells = put Q.cells (list_map bare_entry (live_from (i + 1) es));
        given = give_all (i + 1) es Q.given;
      })
          → (P : Plain) (n : Name) (o : Option (Cell A))
          → read_rows P (cell_rows number n o ++ rows_from number (i + 1) es)
          ≡ record P {
            cells = put P.cells (list_map bare_entry (with_cell n o (live_from (i + 1) es)));
            given = give_all (i + 1) es P.given;
          }
      at rest P n o = grind (arith, read_append, cell_read, rest)

  live_apart : (i : ℕ) (es : List (Entry A))
      → AreApart name_cmp (list_map bare_entry (live_from i es))
  live_apart i [] = tt
  live_apart i (e ∷ es) =
      let n : Name = record { slot = i; generation = e.generation } in
      let none = find_bare n (live_from (i + 1) es) ∙ ap (option_map bare_cell)
      (find_below (i + 1) es n (omega arith)) in
      let rest = live_apart (i + 1) es in grind arith

  cells_read : (slots : List (Entry A))
      → put (map.empty {R = name_cmp}) (list_map bare_entry (live_from 0 slots))
      ≡ bare_cells (cells_of slots)
  unfolding cells_of
  cells_read slots =
      let bare = map.get-from_entries name_total (list_map bare_entry (live_from 0 slots)) in
      let own = map.get-from_entries name_total (live_from 0 slots) in
      put_new by_name (list_map bare_entry (live_from 0 slots)) (live_apart 0 slots)
      ∙ same_cells _ _ (λ q. grind (arith, bare, own, find_bare, get_bare_cell))

  contains_given : (i : ℕ) (es : List (Entry A)) (given : Names) (q : Name)
      → set.contains (give_all i es given) q
      ≡ (list_any (eq_by_cmp name_cmp q) (given_from 1 i es) || set.contains given q)
  unfolding give_all
  contains_given i [] given q = refl
  contains_given i (e ∷ es) given q =
      grind (arith, contains_up_to, any_of, contains_given (i + 1) es)

  given_read : (slots : List (Entry A)) → give_all 0 slots set.empty ≡ given_of 1 slots
  unfolding given_of
  given_read slots =
      let listed = set.contains-from_list name_total (given_from 1 0 slots) in
      grind (arith, same_names, contains_given, set.contains-empty, listed, or-false)

module _ {A : Type 0} {p : SlotTable A} (s : IsSlotTable p) {S : State A}
    (view : state_of p.start p.counts.peak p.slots ≡ S) where
  entries_are : map.entries (slots_of (state_of p.start p.counts.peak p.slots))
      ≡ numbered 0 p.slots
  entries_are =
      ap map.entries (map.same_map nat_cmp_total map.nat_cmp-IsAntisymmetric _
      (map.from_sorted {R = nat_cmp} (numbered 0 p.slots)) (λ q. get_last s q
      ∙ sym (map.get-from_sorted nat_cmp (numbered 0 p.slots) q (rising 0 p.slots)
      ∙ find_numbered 0 p.slots q q (omega arith))))
      ∙ map.entries-from_sorted nat_cmp (numbered 0 p.slots) (rising 0 p.slots)

  -- the rows are in the order of the machine's slots
  pub rows_seen : (number : ℕ) → rows_from number 0 p.slots ≡ all_slot_rows number S
  rows_seen number = grind (arith, entries_are, rows_numbered)

  -- and are read back
  pub rows_back : (number : ℕ) (P : Plain) → S.start ≡ 1 → P.cells ≡ map.empty
      → P.given ≡ set.empty → read_rows P (all_slot_rows number S)
      ≡ record P { cells = bare_cells S.cells; given = S.given }
  rows_back number P first no_cells none_given =
      let start : p.start ≡ 1 = rw (← view) at first in
      rw (← rows_seen number, ← view) (slots_read number 0 p.slots P
      ∙ rw (no_cells, none_given, cells_read p.slots, given_read p.slots, start) refl)

-- ==== another slot is packed, over one that was packed in an earlier state

-- an element that is within a list
some_at : {X : Type 0} (xs : List X) (k : ℕ) → k < length xs → (x : X) × (slice_get xs k ≡ Some x)
some_at [] k within = absurd (omega arith)
some_at (x ∷ xs) zero within = (x, refl)
some_at (x ∷ xs) (suc k) within = some_at xs k (omega arith)

-- ---- one slot after the other

module _ {A : Type 0} (number k : ℕ) (es : List (Entry A)) (whole : List BaseRow)
    (slots : List (PackedSlot × Location)) (whole_after : List BaseRow)
    (slots_after : List (PackedSlot × Location)) where
  one_more : (e : Entry A) → slice_get es k ≡ Some e → ArePacked number (take k es) whole (take k slots)
      → length (take k slots) ≡ k → Packs number k e whole slots whole_after slots_after
      → ArePacked number (take (k + 1) es) whole_after (take (k + 1) slots_after)
  one_more e there before many p =
      let done = take k slots in
      let own = p.is.more in
      let from : 0 + k ≡ k = omega arith in
      let grows = unpack_grows number whole own 0 done (omega (arith, before.all)) in
      let left : drop (whole_of done) (whole ++ own) ≡ own =
      rw before.all (drop-append_seam whole own) in
      record {
        all = rw (p.here, whole_snoc)
            (omega (arith, before.all, p.is.many, ap length p.is.grows, length-append whole own));
        rows = rw (
          p.is.grows,
          p.here,
          unpack_snoc,
          grows,
          before.rows,
          left,
          many,
          from,
          p.is.rows,
          add-one,
          rows_more number 0 k es e there,
          from,
        ) refl;
      }

  -- those so far are packed, and the others are unchanged
  pub packed_step : (old : List (PackedSlot × Location)) → ArePacked number (take k es) whole (take k slots)
      → k ≤ length slots → ((i : ℕ) → k ≤ i → slice_get slots i ≡ slice_get old i) → k < length es
      → IfSome (slice_get es k) (λ e. Packs number k e whole slots whole_after slots_after)
      → ArePacked number (take (k + 1) es) whole_after (take (k + 1) slots_after)
      × (k + 1 ≤ length slots_after)
      × ((i : ℕ) → k + 1 ≤ i → slice_get slots_after i ≡ slice_get old i)
  packed_step old before long rest within packs =
      let e = some_at es k within in
      let many = length-take-le k slots long in
      let p : Packs number k e.0 whole slots whole_after slots_after = rw e.1 at packs in
      let here = ap length p.here in
      let more = length-append (take k slots) (p.packed ∷ []) in (
        one_more e.0 e.1 before many p,
        omega (arith, here, many, more, length-take (k + 1) slots_after),
        λ i after. p.rest i (omega arith) ∙ rest i (omega arith),
      )

-- ---- a slot

module _ {A : Type 0} where
  -- one that is unchanged is packed already, without a whole row
  pub stayed : (number k : ℕ) (es : List (Entry A)) (whole : List BaseRow)
      (slots : List (PackedSlot × Location)) (p : PackedSlot) → k < length es → k < length slots
      → IfSome (slice_get slots k) (λ e. p ≡ e.0)
      → IfSome (slice_get es k) (λ e. IfSome (slice_get slots k) (λ s. IsPastOf e s))
      → IfSome (slice_get es k) (λ e. (l : Location) → IsPastOf e (p, l) → IsSmall k (p, l) e)
      → IfSome (slice_get es k) (λ e. Packs number k e whole slots whole slots)
  stayed number k es whole slots p there within is were stays =
      let e = some_at es k there in
      let past = some_at slots k within in
      let same : p ≡ past.0.0 = rw past.1 at is in
      let was : IsPastOf e.0 past.0 = rw past.1 at (rw e.1 at were) in
      let small : IsSmall k past.0 e.0 = (rw (e.1, same) at stays) past.0.1 was in
      rw e.1 (record {
        packed = past.0;
        is = record {
          more = [];
          grows = sym (append-nil whole);
          many = small.none;
          rows = small.rows number [];
        };
        here = rw (
          add-one,
          take-suc slots k past.0 within,
          get_or_from_slice_get slots k past.0 past.0 past.1,
        ) refl;
        rest = λ i after. refl;
      })

  -- a cell without its value was made where it was made
  made_bare : (c : Option (Cell A)) (l : Location)
      → ((b : Cell (Unit {0})) → option_map bare_cell c ≡ Some b → location_of (Some b) ≡ Some l)
      → IfSome (location_of c) (λ k. l ≡ k)
  made_bare None l made = tt
  made_bare (Some c) l made = let same = made _ refl in grind arith

  bare_made : (c : Option (Cell A)) (l : Location) → IfSome (location_of c) (λ k. l ≡ k)
      → (b : Cell (Unit {0})) → option_map bare_cell c ≡ Some b → location_of (Some b) ≡ Some l
  bare_made c l made b is = grind arith

module _ {A : Type 0} (slots : List (Entry A)) (S : State A) (are : cells_of slots ≡ S.cells) where
  -- the cell of a slot without its value
  bare_in : (slot g : ℕ) (e : Entry A) → slice_get slots slot ≡ Some e → g ≡ e.generation
      → map.get (plain S).cells (record { slot = slot; generation = g })
      ≡ option_map bare_cell (cell_of e.kept)
  bare_in slot g e there same =
      rw (same, get_bare_cell, ← are, get_cells, there, eq-eqb e.generation e.generation refl) refl

  made_in : (slot g : ℕ) (e : Entry A) (l : Location) → slice_get slots slot ≡ Some e
      → WasMadeAt (plain S) (record { slot = slot; generation = g }) l
      → g ≡ e.generation → WasMadeIn e l
  made_in slot g e l there was same = grind (arith, made_bare, bare_in)

  pub past_of : (past : List (PackedSlot × Location)) → ArePastSlots (plain S) past → ArePastOf slots past
  past_of past all slot = elim (slice_get_cases slots slot).1 [
    | inl w ↦ rw w.2 (elim (slice_get_cases past slot).1 [
      | inl v ↦ rw v.2 (at w.0 w.2 v.0 (all slot v.0 v.2))
      | inr v ↦ rw v.1 tt
    ])
    | inr w ↦ rw w.1 tt
  ]
    where
      at : (e : Entry A) → slice_get slots slot ≡ Some e → (p : PackedSlot × Location)
          → IsPastSlot (plain S) slot p → IsPastOf e p
      at e there (packed.Value g, l) was = made_in slot g e l there was
      at e there (packed.Shared g, l) was = made_in slot g e l there was
      at e there _ was = tt

-- ---- slots packed ahead

module _ {X : Type 0} where
  -- if one element is put into its place, or after the last one, each other is unchanged
  only_at : (k : ℕ) (xs ys : List X) (x : X) → k ≤ length xs → take (suc k) ys ≡ take k xs ++ x ∷ []
      → ((i : ℕ) → k < i → slice_get ys i ≡ slice_get xs i) → (i : ℕ)
      → (slice_get ys i ≡ slice_get xs i) ⊎ ((i ≡ k) × (slice_get ys i ≡ Some x))
  only_at (suc k) (z ∷ xs) (y ∷ ys) x within here rest (suc i) =
      let front : take (suc k) ys ≡ take k xs ++ x ∷ [] = cc in
      let rec = only_at k xs ys x (omega arith) front (λ j after. rest (suc j) (omega arith)) i in
      grind arith
  only_at k xs ys x within here rest i = grind (arith, rest i, take-nil)

module _ {A : Type 0} (es : List (Entry A)) where
  -- a slot in few bytes describes its cell, and so does one that describes nothing
  pub small_of : (slot : ℕ) (o : Option PackedSlot) (l : Location) → slot < length es
      → IfSome (slice_get es slot) (λ e. WasMadeIn e l)
      → IfSome o (λ p. IfSome (slice_get es slot)
      (λ e. (k : Location) → WasMadeIn e k → IsSmall slot (p, k) e))
      → (e : Entry A) × (slice_get es slot ≡ Some e) × IsOf e (unwrap_or o (packed.Whole 0), l)
  small_of slot o l within made small =
      let e = some_at es slot within in (e.0, e.1, at e.0 o (rw e.1 at made) (rw e.1 at small))
    where
      at : (e : Entry A) (o : Option PackedSlot) → WasMadeIn e l
          → IfSome o (λ p. (k : Location) → WasMadeIn e k → IsSmall slot (p, k) e)
          → IsOf e (unwrap_or o (packed.Whole 0), l)
      at e (Some (packed.Value g)) made small = (let same = (small l made).rows 0 [] in cc, made)
      at e (Some (packed.Shared g)) made small = (let same = (small l made).rows 0 [] in cc, made)
      at e _ made small = tt

  module _ (old slots : List (PackedSlot × Location)) where
    -- if one is put into its place, or after the last one
    pub renewed_by : {E : Type 0} (r : Result (Unit {0}) E) (k : ℕ) (p : PackedSlot × Location)
        → k ≤ length old → (e : Entry A) × (slice_get es k ≡ Some e) × IsOf e p
        → OnOk r (take (k + 1) slots ≡ take k old ++ p ∷ [])
        → OnOk r ((i : ℕ) → k < i → slice_get slots i ≡ slice_get old i)
        → OnOk r (AreRenewed es old slots)
    renewed_by (Err e) k p within of here rest = tt
    renewed_by (Ok u) k p within of here rest = λ i q there.
        let more : suc k ≡ k + 1 = omega arith in
        ⊎_elim (λ same. inl (sym same ∙ there)) (λ at. inr (
          of.0,
          ap (slice_get es) at.0 ∙ of.1,
          subst (IsOf of.0) (let same : Some p ≡ Some q = sym at.1 ∙ there in cc) of.2,
        )) (only_at k old slots p within (ap (λ n. take n slots) more ∙ here) rest i)

module _ {A : Type 0} {p : SlotTable A} (s : IsSlotTable p) (S : State A)
    (seen : state_of p.start p.counts.peak p.slots ≡ S) where
  -- what describes a slot's cell is true of the state, and so are renewed slots
  told_past : (slot g : ℕ) (e : Entry A) (l : Location) → slice_get p.slots slot ≡ Some e
      → (g ≡ e.generation) × WasMadeIn e l
      → WasMadeAt (plain S) (record { slot = slot; generation = g }) l
  told_past slot g e l there of = grind (arith, get_given, s.begun, nat_tests, bare_made, bare_in)

  pub renewed_past : (old slots : List (PackedSlot × Location)) → ArePastSlots (plain S) old
      → AreRenewed p.slots old slots → ArePastSlots (plain S) slots
  renewed_past old slots all renewed slot q there =
      ⊎_elim (λ was. all slot q was) (λ of. at of.0 of.1 q of.2) (renewed slot q there)
    where
      at : (e : Entry A) → slice_get p.slots slot ≡ Some e → (q : PackedSlot × Location) → IsOf e q
          → IsPastSlot (plain S) slot q
      at e there (packed.Value g, l) of = told_past slot g e l there of
      at e there (packed.Shared g, l) of = told_past slot g e l there of
      at e there _ of = tt
