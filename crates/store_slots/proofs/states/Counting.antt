-- Counts of slots and of references, and what ends.
pub mod Changes
use Rattle.store_cells.specs.Data.{SlotData as slot}
use Rattle.std.specs.FinMap as map
use Rattle.std.specs.FinSet as set
use Rattle.store_cells.specs.declared.entry.CellKind.TheVariants as kind
unfoldable pub use Changes.*

-- ==== how many references name a cell, even when some names end

-- a cell is named if some reference names it
pub named_count : {T : Type 0} (slots : List (Entry T)) (m : Name)
    → is_named (cells_of slots) m ≡ nat_lt 0 (how_many (refers m) slots)
named_count slots m = both_ways _ _
    (λ h. let it = named_gives (cells_of slots) m h in
    let f = found slots it.0 is_some refl (ap is_some it.2) in
    lt-ltb 0 _ (many_some (refers m) slots it.0.slot _ f.there
    (ap (refers_to m) (sym f.cell ∙ it.2) ∙ name_here m)))
    (λ h. let one = some_of_many (refers m) slots (ltb-true 0 _ h) in
    let n : Name = record { slot = one.0; generation = one.1.generation } in
    let ref = is_ref m (cell_of one.1.kept) one.3 in
    named_from (cells_of slots) m (
      n,
      ref.0,
      get_cells slots n
          ∙ rw (one.2, eq-eqb n.generation n.generation refl) ref.1,
    ))

-- ---- names that end

-- names that differ from one aren't it
apart_each : (n : Name) (names : List Name) → AllByRecursion (λ q. is_name n q ≡ false) names
    → AllByRecursion (λ q. among (n ∷ []) q ≡ false) names
unfolding is_name
apart_each n [] apart = tt
apart_each n (q ∷ names) apart =
    (rw ((eq_by_cmp_equiv name_total).symm q n, apart.0) refl, apart_each n names apart.1)

-- how many of some names are of references to a cell
abbrev pub refers_among : {T : Type 0} → List (Entry T) → List Name → Name → ℕ
refers_among slots names m = count_by (λ n. refers_to m (cell_under slots n)) names

-- what is left of the slots when the cells of some names are removed
pub record IsAway {T : Type 0} (slots : List (Entry T)) (names : List Name) : Type 0 where
  pub left : List (Entry T)
  pub cells : take_away (cells_of slots) names ≡ cells_of left
  pub counts : (m : Name)
      → how_many (refers m) left + refers_among slots names m ≡ how_many (refers m) slots

module _ {T : Type 0} (slots : List (Entry T)) where
  -- if there is nothing that goes, nothing goes
  same_away : (names : List Name) → take_away (cells_of slots) names ≡ cells_of slots
      → ((m : Name) → refers_among slots names m ≡ 0) → IsAway slots names
  same_away names same none =
      record { left = slots; cells = same; counts = λ m. omega (arith, none m) }

  -- what is left when one name ends: the slot of a Value or a Ref is empty then
  pub first_away : (n : Name) → IsAway slots (n ∷ [])
  first_away n = by (cell_under slots n) refl
    where
      by : (cell : Option (Cell T)) → cell_under slots n ≡ cell → IsAway slots (n ∷ [])
      by None at = same_away (n ∷ []) (away_absent (cells_of slots) n (get_cells slots n ∙ at))
          (λ m. rw at refl)
      by (Some (Shared c l)) at = same_away (n ∷ [])
          (away_shared (cells_of slots) n (ap is_shared (get_cells slots n ∙ at))) (λ m. rw at refl)
      by _ at =
          let there = get_cells slots n ∙ at in
          let f = found slots n is_some refl (ap is_some there) in
          record {
            left = ended f;
            cells = away_one (cells_of slots) n (ap is_shared there) ∙ sym (cells_ended f);
            counts = λ m.
                let count = (rekept_written f.spot (λ k. Empty)).count (refers m) in
                let was = ap (λ o. bit (passes (refers m) o)) f.there in
                let own = ap (λ c. bit (refers_to m c)) (sym f.cell ∙ get_cells slots n) in
                omega (arith, count, was, own);
          }

  -- other names keep their cells
  kept_away : {names : List Name} (a : IsAway slots names) (q : Name) → among names q ≡ false
      → cell_under a.left q ≡ cell_under slots q
  kept_away {names} a q other =
      rw (← get_cells a.left q, ← get_cells slots q, ← a.cells)
      (⊎_elim (λ e. e) (λ e. absurd cc) (without_view (cells_of slots) names q))

  -- so references among these are as many as before
  among_away : {names : List Name} (a : IsAway slots names) (m : Name) (others : List Name)
      → AllByRecursion (λ q. among names q ≡ false) others
      → refers_among a.left others m ≡ refers_among slots others m
  among_away a m [] apart = refl
  among_away a m (q ∷ others) apart =
      let own = ap (λ c. bit (refers_to m c)) (kept_away a q apart.0) in
      omega (
        arith,
        sum_by-cons (λ n. bit (refers_to m (cell_under a.left n))) q others,
        among_away a m others apart.1,
        sum_by-cons (λ n. bit (refers_to m (cell_under slots n))) q others,
      )

-- names end one after the other
pub all_away : {T : Type 0} (names : List Name) → IsDistinct is_name names
    → (slots : List (Entry T)) → IsAway slots names
all_away [] apart slots =
    same_away slots [] (away_nothing (cells_of slots) [] (λ q h. absurd cc)) (λ m. refl)
all_away (n ∷ names) apart slots =
    let one = first_away slots n in
    let rest = all_away names (IsDistinct-tail is_name n names apart) one.left in
    record {
      left = rest.left;
      cells = rw (away_each (cells_of slots) n names, one.cells) rest.cells;
      counts = λ m.
          let same = among_away slots one m names
          (apart_each n names (IsDistinct-head is_name n names apart)) in
          let both = sum_by-cons (λ q. bit (refers_to m (cell_under slots q))) n names in
          omega (arith, one.counts m, rest.counts m);
    }

-- some are left if fewer went than there were
rest_left : (left gone all : ℕ) → left + gone ≡ all → nat_lt 0 left ≡ nat_lt gone all
rest_left left gone all e = grind (arith, nat_tests)

module _ {T : Type 0} (slots : List (Entry T)) where
  -- when names are removed, a cell is still named if not all that name it are among these
  pub named_after : (names : List Name) → IsDistinct is_name names → (m : Name)
      → is_named (take_away (cells_of slots) names) m
      ≡ nat_lt (refers_among slots names m) (how_many (refers m) slots)
  named_after names apart m =
      let a = all_away names apart slots in
      rw (a.cells, named_count a.left m) (rest_left _ _ _ (a.counts m))

  -- without one reference to it a cell is named if it had two
  pub named_without : (n m : Name) (l : Location) → cell_under slots n ≡ Some (Ref m l)
      → (0 < how_many (refers m) slots)
      × (is_named (map.remove (cells_of slots) n) m ≡ nat_lt 1 (how_many (refers m) slots))
  named_without n m l at =
      let a = first_away slots n in
      let plain = away_one (cells_of slots) n (ap is_shared (get_cells slots n ∙ at)) in
      let one : refers_among slots (n ∷ []) m ≡ 1 = rw (at, name_here m) refl in (
        omega (arith, a.counts m),
        rw (← plain, a.cells, named_count a.left m) (rest_left _ 1 _ (omega (arith, a.counts m))),
      )

-- ---- what references name

-- the slot of a shared value
pub record HasShared {T : Type 0} (slots : List (Entry T)) (n : Name) : Type 0 where
  pub slot : IsFound slots n
  pub open slot use *
  pub shared : is_shared (cell_of slot.kept) ≡ true

pub has_shared : {T : Type 0} (slots : List (Entry T)) (n : Name)
    → is_shared (map.get (cells_of slots) n) ≡ true → HasShared slots n
has_shared slots n h =
    let f = found slots n is_shared refl h in record { slot = f; shared = rw f.cell at h }

-- what it counts, except for some, is how many references name it
pub references_of : {T : Type 0} {slots : List (Entry T)} {less : Name → ℕ} → AreReferred less slots
    → {m : Name} (t : HasShared slots m) → t.references + less m ≡ how_many (refers m) slots
references_of referred {m} t = (rw t.there at (referred.each m.slot)) t.shared

-- what names something is a Ref to it
pub reference_to : {T : Type 0} (cell : Option (Cell T)) (m : Name) → target_name_in cell ≡ Some m
    → (l : Location) × (cell ≡ Some (Ref m l))
reference_to cell m h = grind arith

-- each reference of linked cells names a shared value
pub named_shared : {T : Type 0} (slots : List (Entry T)) → HasTargets (cells_of slots)
    → (n m : Name) → Some m ≡ target_name_in (cell_under slots n) → is_shared (map.get (cells_of slots) m) ≡ true
named_shared slots targets n m target =
    let it = reference_to (cell_under slots n) m (sym target) in targets n m it.0 (get_cells slots n ∙ it.1)

pub found_target : {T : Type 0} (slots : List (Entry T)) → HasTargets (cells_of slots)
    → (n m : Name) → Some m ≡ target_name_in (cell_under slots n) → HasShared slots m
found_target slots targets n m target = has_shared slots m (named_shared slots targets n m target)

-- ==== the counts of references when a cell comes or goes, and when a reference names another value

-- whether a target, if there is one, is this cell
abbrev pub is_target : Option Name → Name → Bool
is_target None q = false
is_target (Some m) q = is_name q m

module _ {T : Type 0} where
  -- ---- slots whose counts change represent the same state, and what holds of them holds

  pub record IsRecounted (slots after : List (Entry T)) : Type 0 where
    pub long : length after ≡ length slots
    pub state : (start peak : ℕ) → state_of start peak after ≡ state_of start peak slots
    pub table : {free : set.FinSet nat_cmp} {rooms start : ℕ} {counts : UsableCount}
        → IsSlotTable (record { free = free; rooms = rooms; start = start; counts = counts; slots = slots })
        → IsSlotTable (record { free = free; rooms = rooms; start = start; counts = counts; slots = after })

  same_counts : (slots : List (Entry T)) → IsRecounted slots slots
  same_counts slots = record { long = refl; state = λ start peak. refl; table = λ s. s }

  module _ (slots : List (Entry T)) (i : ℕ) (f : Entry T → ℕ) where
    abbrev pub recounted : List (Entry T)
    recounted = change_entry slots i (λ e. record e { references = f e })

    pub recounted_written : (e : Entry T) → slice_get slots i ≡ Some e
        → IsWritten slots recounted i (record e { references = f e })
    recounted_written e there =
        rw there (set_written slots i (record e { references = f e }) e there)

    is_recounted : IsRecounted slots recounted
    is_recounted = at (slice_get slots i) refl
      where
        at : (o : Option (Entry T)) → slice_get slots i ≡ o → IsRecounted slots recounted
        at None there = rw there (same_counts slots)
        at (Some e) there =
            let w = recounted_written e there in
            let long : length recounted ≡ length slots = rw (there, length-set) refl in
            record {
              long = long;
              state = state_same w there refl refl;
              table = λ s. slotted_still s w there refl refl long;
            }

  module _ (slots : List (Entry T)) where
    pub counted_up : (o : Option Name) → IsRecounted slots (count_more slots o)
    counted_up None = same_counts slots
    counted_up (Some m) = is_recounted slots m.slot (λ e. e.references + 1)

    pub counted_down : (o : Option Name) → IsRecounted slots (count_less slots o)
    counted_down None = same_counts slots
    counted_down (Some m) = is_recounted slots m.slot (λ e. e.references - 1)

  -- ---- a target that counts one reference less than there are

  -- slots in which a target, if there is one, doesn't count one of the references to it
  pub record IsUncounted (slots : List (Entry T)) (target : Option Name) : Type 0 where
    pub counted : AreReferred (λ q. bit (is_target target q)) slots
    pub shared : IfSome target (λ m. is_shared (map.get (cells_of slots) m) ≡ true)

  -- it is within the slots, and its count may rise
  pub may_rise : {slots : List (Entry T)} (o : Option CellName)
      → IsUncounted slots (option_map name_of_cell o) → IfSome o (λ m. m.slot < length slots)
      × IfSome o (λ m. IfSome (slice_get slots m.slot) (λ e. e.references < length slots))
  may_rise None u = (tt, tt)
  may_rise {slots} (Some m) u =
      let t = has_shared slots (name_of_cell m) u.shared in
      let count = references_of u.counted t in
      let own = ap bit (name_here (name_of_cell m)) in
      let most = many_within (refers (name_of_cell m)) slots in
      (t.within, rw t.there (omega arith))

  -- once it has, all counts are right
  pub counted_more : {slots : List (Entry T)} (o : Option Name) → IsUncounted slots o
      → AreReferred (λ q. 0) (count_more slots o)
  counted_more None u = u.counted
  counted_more {slots} (Some m) u =
      let t = has_shared slots m u.shared in
      let count = references_of u.counted t in
      let own = ap bit (name_here m) in
      referred (recounted_written slots m.slot (λ e. e.references + 1) _ t.there) u.counted
      (λ q other. rw (t.there, not_named q m other) refl)
      (λ shared. rw t.there (omega arith))

  -- ---- a cell comes

  -- no reference names what isn't live
  none_refer : (slots : List (Entry T)) → HasTargets (cells_of slots) → (m : Name)
      → map.get (cells_of slots) m ≡ None → how_many (refers m) slots ≡ 0
  none_refer slots targets m gone =
      let it = named_gives (cells_of slots) m in grind (arith, nat_tests, named_count, targets)

  -- a content without borrows is a cell, which names what the content does
  pub unborrowed_cell : (d : SlotData T) (l : Location) → IsUnborrowed d
      → (c : Cell T) × (cell_of (kept_data [] l d) ≡ Some c)
  unborrowed_cell (slot.Data kind.Value v) l free = (_, refl)
  unborrowed_cell (slot.Data kind.Shared v) l free = (_, refl)
  unborrowed_cell (slot.Reference m g) l free = (_, refl)
  unborrowed_cell _ l free = absurd free

  -- a shared cell is still there when another slot is written
  pub still_shared : {slots after : List (Entry T)} {i : ℕ} {t : Entry T}
      → IsWritten slots after i t
      → passes (λ e. is_shared (cell_of e.kept)) (slice_get slots i) ≡ false
      → (m : Name) → is_shared (map.get (cells_of slots) m) ≡ true
      → is_shared (map.get (cells_of after) m) ≡ true
  still_shared {slots} {after} {i} w plain m shared =
      let t = has_shared slots m shared in
      let is = t.shared in
      let apart : m.slot ≢ i = λ z. let no = rw (← z, t.there) at plain in cc in
      rw (get_cells after m, w.at m.slot, ne_eqb m.slot i apart, ← get_cells slots m) shared

  -- when it's written in a slot that had no cell, its target, if it has one, doesn't count it yet
  pub uncounted_made : {slots after : List (Entry T)} {i g : ℕ} (d : SlotData T)
      (l : Location)
      → IsWritten slots after i (record { generation = g; kept = kept_data [] l d; references = 0 })
      → passes (λ e. is_live e.kept) (slice_get slots i) ≡ false → AreReferred (λ m. 0) slots
      → HasTargets (cells_of slots)
      → IfSome (target_name_of d) (λ m. is_shared (map.get (cells_of slots) m) ≡ true)
      → IsUncounted after (target_name_of d)
  uncounted_made {slots} {after} {i} {g} d l w dead r targets target = record {
    counted = referred w r (λ q other. grind arith) (λ shared.
        let n : Name = record { slot = i; generation = g } in
        let none = none_refer slots targets n (get_cells slots n ∙ grind arith) in grind arith);
    shared = IfSome_then (target_name_of d) target (still_shared w (grind arith));
  }

-- ---- a cell goes, or names another value

-- what a cell refers to is its target
refers_target : {T : Type 0} (q : Name) (c : Option (Cell T))
    → refers_to q c ≡ is_target (target_name_in c) q
refers_target q c = grind arith

-- the slots once what a name refers to, if it's live and shared, counts the reference no more
pub record IsForgotten {T : Type 0} (slots : List (Entry T)) (target gone : Option Name) : Type 0
  where
    pub within : IfSome gone (λ m. m.slot < length slots)
    pub some : IfSome gone (λ m. IfSome (slice_get slots m.slot) (λ e. 0 < e.references))
    pub counted : AreReferred (λ q. bit (is_target target q)) (count_less slots gone)

-- its count may fall
pub may_fall : {T : Type 0} {slots : List (Entry T)} {target : Option Name} (o : Option CellName)
    → IsForgotten slots target (option_map name_of_cell o) → IfSome o (λ m. m.slot < length slots)
    × IfSome o (λ m. IfSome (slice_get slots m.slot) (λ e. 0 < e.references))
may_fall None f = (tt, tt)
may_fall (Some m) f = (f.within, f.some)

forgotten : {T : Type 0} (slots : List (Entry T)) → AreReferred (λ m. 0) slots → (n : Name)
    → (target : Option Name) → target ≡ target_name_in (map.get (cells_of slots) n)
    → IsForgotten slots target (shared_target slots target)
forgotten slots r n None is = record { within = tt; some = tt; counted = r }
forgotten {T} slots r n (Some m) is = by (is_shared (cell_under slots m)) refl
  where
    -- a live target counts one reference at least; it counts one less, and just this one isn't
    -- counted then; one that isn't live, or isn't shared, is counted nowhere
    by : (b : Bool) → is_shared (cell_under slots m) ≡ b
        → IsForgotten slots (Some m) (cond b (Some m) None)
    by true shared =
        let t = has_shared slots m (rw (get_cells slots m) shared) in
        let f = found slots n (λ c. is_some (target_name_in c)) refl (ap is_some (sym is)) in
        let names : refers_to m (cell_of f.kept) ≡ true =
        grind (arith, refers_target, name_here, f.cell) in
        let some = many_some (refers m) slots n.slot _ f.there names in
        let count = references_of r t in
        let own = ap bit (name_here m) in
        record {
          within = t.within;
          some = rw t.there (omega arith);
          counted = referred
              (recounted_written slots m.slot (λ e. e.references - 1) _ t.there) r
              (λ q other. rw (t.there, not_named q m other) refl)
              (λ shared. rw t.there (omega arith));
        }
    by false dead = record {
      within = tt;
      some = tt;
      counted = record { each = λ k. at k (slice_get slots k) refl (r.each k) };
    }
      where
        at : (k : ℕ) (o : Option (Entry T)) → slice_get slots k ≡ o → IsReferred slots (λ q. 0) k o
            → IsReferred slots (λ q. bit (is_name q m)) k o
        at k None there was = tt
        at k (Some e) there was = λ shared.
            let q : Name = record { slot = k; generation = e.generation } in
            let same = was shared in grind (arith, nat_tests, name_test)

-- a live cell that goes or names another value, once the slot of the shared value that it names
-- counts it no more
pub record Leaves {T : Type 0} (slots : List (Entry T)) (start peak spare : ℕ) (now : SlotsState T)
    (n : Name) (named : Option Name) : Type 0 where
  pub less : IsRecounted slots (count_less slots named)
  pub view : record { state = state_of start peak (count_less slots named); spare = spare } ≡ now
  pub cell : IsFound (count_less slots named) n
  pub forgets : IsForgotten slots (target_name_in (cell_of cell.kept)) named

forgets_of : {T : Type 0} {slots : List (Entry T)} {start peak spare : ℕ} {now : SlotsState T}
    (n : Name) {named : Option Name}
    → record { state = state_of start peak slots; spare = spare } ≡ now
    → named ≡ live_target now.state.cells (map.get now.state.cells n) → AreReferred (λ m. 0) slots
    → IsForgotten slots (target_name_in (map.get now.state.cells n)) named
forgets_of {slots = slots} n view is r =
    rw (is, live_seen slots view) (forgotten slots r n _ (rw (← view) refl))

module _ {T : Type 0} {slots : List (Entry T)} {start peak spare : ℕ} {now : SlotsState T}
    {n : Name} {named : Option Name} where
  pub leaves : record { state = state_of start peak slots; spare = spare } ≡ now
      → is_some (map.get now.state.cells n) ≡ true
      → named ≡ live_target now.state.cells (map.get now.state.cells n)
      → AreReferred (λ m. 0) slots → Leaves slots start peak spare now n named
  leaves view there is r =
      let less = counted_down slots named in
      let same : record { state = state_of start peak (count_less slots named); spare = spare }
      ≡ now = rw (less.state start peak) view in
      let cell = found_in same there in
      let was = sym (ap (λ (x : SlotsState T). map.get x.state.cells n) same) ∙ cell.cell in
      record { less = less; view = same; cell = cell; forgets = rw was at (forgets_of n view is r) }

  -- the slots once the cell's slot keeps something else
  module _ (h : Leaves slots start peak spare now n named) (k : Kept T → Kept T) where
    abbrev pub slots_left : List (Entry T)
    slots_left = rekept h.cell.spot k

    pub left_length : length slots_left ≡ length slots
    left_length = rekept_length h.cell.spot k ∙ h.less.long

    pub left_state : (f : NameMap (Cell T) → NameMap (Cell T))
        → cells_of slots_left ≡ f (cells_of (count_less slots named))
        → state_of start peak slots_left ≡ record now.state { cells = f now.state.cells }
    left_state f is = rekept_state h.cell.spot k start peak is
        ∙ ap (λ (x : SlotsState T). record x.state { cells = f x.state.cells }) h.view

    -- what it names then isn't counted yet
    pub left_counts : is_shared (cell_of (k h.cell.kept)) ≡ false
        → AreReferred (λ q. bit (is_target (target_name_in (cell_of (k h.cell.kept))) q)) slots_left
    left_counts plain =
        referred (rekept_written h.cell.spot k) h.forgets.counted (λ q other. rw (
          h.cell.there,
          refers_target q (cell_of h.cell.kept),
          refers_target q (cell_of (k h.cell.kept)),
        ) (omega arith)) (λ shared. absurd cc)

-- ==== the end of one name, by the value that goes with it

module _ {T : Type 0} where
  -- the cells determine what hinders the end of a list
  pub hindrance_is : (S : State T) (names : List Name)
      → hindrance_to S names ≡ first_hindrance S.cells (cells_after S.cells names) names
  unfolding hindrance_to
  hindrance_is S names = refl

  -- the state without the cell of a value that goes
  abbrev pub without : State T → Option Name → State T
  without S None = S
  without S (Some m) = record S { cells = map.remove S.cells m }

  -- a cell that no borrow hinders, and the shared value that it names: if it goes, an end is done
  pub record Goes (S : State T) (n : Name) (target : Option Name) (closed : State T) : Type 0 where
    pub there : is_some (map.get S.cells n) ≡ true
    pub named : target ≡ live_target S.cells (map.get S.cells n)
    pub alone : write_refusal (content_at S n) ≡ None
    pub closes : record S { cells = map.remove S.cells n } ≡ closed

  module _ (S : State T) (n : Name) (linked : IsLinked S.cells) (d : Option Name)
      (ending : d ≡ would_end (is_named (map.remove S.cells n)) (map.get S.cells n) n) where
    -- a borrow of that value hinders the end, and no other
    pub ending_hinders : hindrance_to S (n ∷ []) ≡ refusal_of S.cells d
    ending_hinders = let all = one_hindered S n linked _ refl in grind arith

    -- a reference stays as it is when the value has gone, and then it goes
    pub reference_goes : {o : Option Name} → o ≡ target_name_in (map.get S.cells n) → is_some o ≡ true
        → Goes (without S d) n (cond (is_some d) None o) (close S (n ∷ []))
    reference_goes {o} is some =
        let ref : (m : Name) × (l : Location) × (map.get S.cells n ≡ Some (Ref m l)) = grind arith in
        let shared = linked.targets n ref.0 ref.1 ref.2 in
        let apart : n ≢ ref.0 = λ same. let no = rw (← same, ref.2) at shared in cc in
        let kept = get-remove_apart by_name S.cells ref.0 n apart in
        let gone = get-remove_here by_name S.cells ref.0 in
        let closed = close_one S.cells n linked _ ref.2 in
        record { there = grind arith; named = grind arith; alone = grind arith; closes = grind arith }

    -- a value ends alone, and what is neither a value nor a reference changes nothing
    pub value_closes : is_some (target_name_in (map.get S.cells n)) ≡ false
        → without S d ≡ close S (n ∷ [])
    value_closes h = let ends = close_one S.cells n linked _ refl in grind arith

  -- an insertion at a key that is then removed changes nothing
  removed_again : (cells : NameMap (Cell T)) (n : Name) (c : Cell T)
      → map.remove (map.insert cells n c) n ≡ map.remove cells n
  removed_again cells n c = same_cells _ _ (λ q.
      grind (arith, map.get-remove {X = Cell T} name_total, map.get-insert {X = Cell T} name_total))

  -- a value of its own without borrows ends alone, and nothing hinders that; it can be lent, and then
  -- goes as it would have gone
  pub record EndsFree (S : State T) (n : Name) : Type 0 where
    pub goes : Goes S n None (close S (n ∷ []))
    pub open goes use *
    pub hinders : hindrance_to S (n ∷ []) ≡ None
    pub unborrowed : has_no_borrow (content_at S n) ≡ true
    pub value : (v : T) → content_at S n ≡ Some (Here v [])
        → Some v ≡ unborrowed_value (map.get S.cells n)
    pub lent : (w : Borrow) → (is_some (map.get (fill S n (Lent w)).cells n) ≡ true)
        × (None ≡ live_target (fill S n (Lent w)).cells (map.get (fill S n (Lent w)).cells n))
        × (record S { cells = map.remove (fill S n (Lent w)).cells n } ≡ close S (n ∷ []))

  pub free_ends : (S : State T) {n : Name} → IsLinked S.cells
      → is_unborrowed_value (map.get S.cells n) ≡ true → EndsFree S n
  free_ends S {n} linked free =
      let own : (v : T) × (l : Location) × (map.get S.cells n ≡ Some (Value (Here v []) l)) =
      grind arith in
      let ends = close_one S.cells n linked _ own.2 in
      record {
        goes = record {
          there = rw own.2 refl;
          named = rw own.2 refl;
          alone = rw own.2 refl;
          closes = rw ends refl;
        };
        hinders = one_hindered S n linked _ own.2;
        unborrowed = rw own.2 refl;
        value = λ v is. rw own.2 (let same = rw own.2 at is in cc);
        lent = λ w.
            let cell = get-changed_here by_name S.cells n (refill (Lent w)) _ own.2 in
            let there = changed_there by_name S.cells n (refill (Lent w)) _ own.2 in
            let again = removed_again S.cells n (Value (Lent w) own.1) in
            (rw cell refl, rw cell refl, rw (there, again, ends) refl);
      }

-- ==== what becomes of a reference's old target when it names another, and the call's result, like in the
-- machine

module _ {T : Type 0} where
  -- a reference that is to name another value
  module _ (S : State T) (n old new : Name) (l : Location) (there : map.get S.cells n ≡ Some (Ref old l))
      (linked : IsLinked S.cells) where
    abbrev pub left : NameMap (Cell T)
    left = sweep (map.insert S.cells n (Ref new l))

    module _ (other : is_name old new ≡ false) (d : Option Name)
        (ending : d ≡ would_end (is_named (map.remove S.cells n)) (map.get S.cells n) n) where
      target_ending : d ≡ cond (is_named (map.remove S.cells n) old) None (Some old)
      target_ending = rw there at ending

      -- the old target hinders it if it would go
      pub hinders : hindrance_at S.cells left old ≡ refusal_of S.cells d
      hinders = grind (arith, target_ending, turn_hindered)

      -- it's there still when the reference has turned, and names nothing
      pub ending_left : (x : Name) → d ≡ Some x
          → (is_some (map.get (map.insert S.cells n (Ref new l)) x) ≡ true)
          × (None ≡ live_target (map.insert S.cells n (Ref new l))
          (map.get (map.insert S.cells n (Ref new l)) x))
      ending_left x is = grind (arith, get-insert_apart, by_name, target_ending)

      pub turns_done : (R : State T) → refusal_of S.cells d ≡ None
          → R ≡ without (record S { cells = map.insert S.cells n (Ref new l) }) d
          → IsTurned S R (Ok tt) (turn S n old new l)
      turns_done R free after =
          rw (other, hinders ∙ free) (
            refl,
            after ∙ rw (
              target_ending,
              turn_sweep S.cells n old new l linked there other,
            ) (grind arith),
          )

-- ==== which calls no borrow hinders, like in the machine

module _ {T : Type 0} where
  -- what hinders the turn of a reference is what hinders its end
  pub turn_free : (S : State T) (n old new : Name) (l : Location) (a : Action T)
      → IsLinked S.cells → map.get S.cells n ≡ Some (Ref old l) → is_name old new ≡ false
      → is_none (hindrance_to S (n ∷ [])) ≡ not (is_hindered a (turn S n old new l).0)
  turn_free S n old new l a linked there other =
      grind (arith, ending_hinders, hinders)
