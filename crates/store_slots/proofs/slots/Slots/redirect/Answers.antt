-- A reference that names another shared value.
use Rattle.store_slots.proofs.{ap, AreReferred, arith, cell_of, change_entry, count_less, count_more, counted_more}
use Rattle.store_slots.proofs.{counted_up, Entry, has_shared, HasShared, IfSome, is_shared, is_some, IsLinked}
use Rattle.store_slots.proofs.{IsUncounted, leaves, Leaves, left_counts, left_length, left_state, length, List}
use Rattle.store_slots.proofs.{live_target, Location, may_rise, Name, name_of_cell, Ref, reference_to, referring}
use Rattle.store_slots.proofs.{Refers, refl, rekept_length, rekept_put, rekept_written, slice_get, slots_left}
use Rattle.store_slots.proofs.{SlotsState, slotted_still, Some, state_of, still_shared, sym, target_name_in, true, ℕ, ◌∙◌}
use Rattle.store_slots.proofs.{◌≡◌}
use Rattle.std.specs.FinMap as map
use Rattle.store_slots.proofs.slots.Slots.redirect.Goals as goal

-- a reference to one shared value that leaves it, and another shared value
record Redirects {T : Type 0} (slots : List (Entry T)) (start peak spare : ℕ) (now : SlotsState T)
    (n m o : Name) : Type 0 where
  leaves : Leaves slots start peak spare now n (Some o)
  open leaves use *
  created : Location
  is : cell.kept ≡ Refers o created
  target : HasShared (count_less slots (Some o)) m

redirects : {T : Type 0} {slots : List (Entry T)} {start peak spare : ℕ} {now : SlotsState T}
    {n m o : Name} → record { state = state_of start peak slots; spare = spare } ≡ now
    → IsLinked now.state.cells → target_name_in (map.get now.state.cells n) ≡ Some o
    → is_shared (map.get now.state.cells m) ≡ true → AreReferred (λ q. 0) slots
    → Redirects slots start peak spare now n m o
redirects {now = now} {n = n} {m = m} {o = o} v linked r s counts =
    let ref = reference_to (map.get now.state.cells n) o r in
    let was = linked.targets n o ref.0 ref.1 in
    let live : Some o ≡ live_target now.state.cells (map.get now.state.cells n) =
    rw (ref.1, was) refl in
    let h = leaves v (ap is_some ref.1) live counts in
    let at = sym (ap (λ (x : SlotsState _). map.get x.state.cells n) h.view) ∙ h.cell.cell in
    let refers = sym ref.1 ∙ at in
    let is : (l : Location) × (h.cell.kept ≡ Refers o l) = grind arith in record {
      leaves = h;
      created = is.0;
      is = is.1;
      target = has_shared _ m (rw (← h.view) at s);
    }

-- the slots once the reference names the new one
module _ {T : Type 0} {slots : List (Entry T)} {start peak spare : ℕ} {now : SlotsState T}
    {n m o : Name} (h : Redirects slots start peak spare now n m o) where
  abbrev after : List (Entry T)
  after = slots_left h.leaves (referring m)

  after_is : {less slots' : List (Entry T)} → less ≡ count_less slots (Some o)
      → IfSome (slice_get less m.slot) (λ t. slots'
      ≡ change_entry less n.slot (λ e. record e {
        kept = referring (record { slot = m.slot; generation = t.generation }) e.kept;
      }))
      → slots' ≡ after
  after_is fewer told = rw h.target.there at (rw fewer at told)

  after_length : length (count_more after (Some m)) ≡ length slots
  after_length = (counted_up after (Some m)).long ∙ left_length h.leaves (referring m)

  turns : cell_of (referring m h.cell.kept) ≡ Some (Ref m h.created)
  turns = rw h.is refl

  -- the new target counts one less than there are
  after_counts : IsUncounted after (Some m)
  after_counts = record {
    counted = rw turns at (left_counts h.leaves (referring m) (rw turns refl));
    shared = still_shared (rekept_written h.cell.spot (referring m)) (rw (h.cell.there, h.is) refl)
        m (rw h.target.cell h.target.shared);
  }

  after_state : state_of start peak (count_more after (Some m))
      ≡ record now.state { cells = map.insert now.state.cells n (Ref m h.created) }
  after_state = (counted_up after (Some m)).state start peak
      ∙ left_state h.leaves (referring m) (λ cells. map.insert cells n (Ref m h.created))
      (rekept_put h.cell.spot (referring m) _ turns)

  names : map.get now.state.cells n ≡ Some (Ref o h.created)
  names = sym (ap (λ (x : SlotsState T). map.get x.state.cells n) h.view)
      ∙ h.cell.cell ∙ rw h.is refl

pub count_down-requires : goal.count_down-requires
count_down-requires g c =
    let h = redirects c.self.view_is c.requires.linked c.requires.refers c.requires.shared
    c.self.invariant.2 in
    record { within = h.forgets.within; some = h.forgets.some }

pub redirect-requires : goal.redirect-requires
redirect-requires g c =
    let h = redirects c.self.view_is c.requires.linked c.requires.refers c.requires.shared
    c.self.invariant.2 in
    rw c.count_down.ensures.slots (record {
      within = h.cell.within;
      target = h.target.within;
      refers = rw (h.cell.there, h.is) refl;
    })

pub refer-requires : goal.refer-requires
refer-requires g c =
    let h = redirects c.self.view_is c.requires.linked c.requires.refers c.requires.shared
    c.self.invariant.2 in
    let rise = may_rise (Some c.args.new) (after_counts h) in
    rw (after_is h c.count_down.ensures.slots c.redirect.ensures.slots)
    (record { within = rise.0; few = rise.1 })

pub invariant_of-self : goal.invariant_of-self
invariant_of-self g c =
    let inv = c.self.invariant in
    let h = redirects c.self.view_is c.requires.linked c.requires.refers c.requires.shared inv.2 in
    let m = name_of_cell c.args.new in
    let now = after_is h c.count_down.ensures.slots c.redirect.ensures.slots in
    let long = rekept_length h.cell.spot (referring m) in
    rw (c.refer.ensures.slots, now, after_length h) (
      (counted_up (after h) (Some m)).table (slotted_still (h.less.table inv.0)
          (rekept_written h.cell.spot (referring m)) h.cell.there refl (rw h.is refl) long),
      rw (c.refer.ensures.rooms, c.redirect.ensures.rooms, c.count_down.ensures.rooms) inv.1,
      counted_more (Some m) (after_counts h),
      inv.3,
    )

pub returns : goal.returns
returns g c =
    let h = redirects c.self.view_is c.requires.linked c.requires.refers c.requires.shared
    c.self.invariant.2 in
    let now = after_is h c.count_down.ensures.slots c.redirect.ensures.slots in
    rw (names h, c.refer.ensures.slots, now, after_length h) (after_state h)
