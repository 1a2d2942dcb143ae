-- A cell that goes.
use Rattle.store_slots.proofs.{ap, arith, cells_ended, change_entry, count_less, Empty, Entry, leaves, Leaves}
use Rattle.store_slots.proofs.{left_counts, left_length, left_state, length, List, may_fall, Name, name_of_cell}
use Rattle.store_slots.proofs.{not_pooled, one_retired, Option, refl, SlotsState, slotted_freed, slotted_retired}
use Rattle.store_slots.proofs.{some_live, ℕ, ◌≡◌}
use Rattle.std.specs.FinMap as map
use Rattle.store_slots.proofs.slots.Slots.remove.Goals as goal

-- how many slots there are then
long : {T : Type 0} {slots less after : List (Entry T)} {start peak spare : ℕ} {now : SlotsState T}
    {n : Name} {named : Option Name} → Leaves slots start peak spare now n named
    → less ≡ count_less slots named
    → after ≡ change_entry less n.slot (λ e. record e { kept = Empty }) → length after ≡ length slots
long h fewer ends = rw (ends, fewer) (left_length h (λ k. Empty))

pub forget-requires : goal.forget-requires
forget-requires g c =
    let h = leaves c.self.view_is c.requires.there c.requires.named c.self.invariant.2 in
    let f = may_fall c.args.named h.forgets in record { within = f.0; some = f.1 }

pub end-requires : goal.end-requires
end-requires g c =
    let h = leaves c.self.view_is c.requires.there c.requires.named c.self.invariant.2 in
    rw c.forget.ensures.slots (record {
      within = h.cell.within;
      alone = λ is. rw (h.cell.there, ← h.cell.holds) (rw (← h.view) at (c.requires.alone is));
    })

pub retire_one-requires : goal.retire_one-requires
retire_one-requires g c =
    let h = leaves c.self.view_is c.requires.there c.requires.named c.self.invariant.2 in
    let long = long h c.forget.ensures.slots c.end.ensures.slots in
    omega (arith, some_live (h.less.table c.self.invariant.0) h.cell, long, c.len.ensures)

pub put-requires-clause-room : goal.put-requires-clause-room
put-requires-clause-room g c =
    let h = leaves c.self.view_is c.requires.there c.requires.named c.self.invariant.2 in
    omega (arith, h.cell.within, h.less.long, c.self.invariant.0.roomy)

pub put-requires-clause-absent : goal.put-requires-clause-absent
put-requires-clause-absent g c =
    let h = leaves c.self.view_is c.requires.there c.requires.named c.self.invariant.2 in
    not_pooled (h.less.table c.self.invariant.0) h.cell

pub invariant_of-self : goal.invariant_of-self
invariant_of-self g c =
    let inv = c.self.invariant in
    let h = leaves c.self.view_is c.requires.there c.requires.named inv.2 in
    let long = long h c.forget.ensures.slots c.end.ensures.slots in
    let put = c.put.ensures in
    rw (long, c.end.ensures.slots, c.forget.ensures.slots, put.added, put.rooms) (
      slotted_freed (h.less.table inv.0) h.cell (omega arith),
      rw (c.end.ensures.rooms, c.forget.ensures.rooms) inv.1,
      left_counts h (λ k. Empty) refl,
      inv.3,
    )

pub invariant_of-self-else-name-lt18446744073709551615
    : goal.invariant_of-self-else-name-lt18446744073709551615
invariant_of-self-else-name-lt18446744073709551615 g c =
    let inv = c.self.invariant in
    let h = leaves c.self.view_is c.requires.there c.requires.named inv.2 in
    let long = long h c.forget.ensures.slots c.end.ensures.slots in
    let one = c.retire_one.ensures in
    let counts = one_retired _ _ _ one.retired (rw (c.len.ensures, long) at one.before) in
    let some = some_live (h.less.table inv.0) h.cell in
    rw (long, counts, c.end.ensures.slots, c.forget.ensures.slots) (
      slotted_retired (h.less.table inv.0) h.cell (omega arith),
      rw (c.end.ensures.rooms, c.forget.ensures.rooms) inv.1,
      left_counts h (λ k. Empty) refl,
      omega (arith, one.retired, some),
    )

pub returns-then-name-lt18446744073709551615 : goal.returns-then-name-lt18446744073709551615
returns-then-name-lt18446744073709551615 g c =
    let h = leaves c.self.view_is c.requires.there c.requires.named c.self.invariant.2 in
    let long = long h c.forget.ensures.slots c.end.ensures.slots in
    rw (long, c.end.ensures.slots, c.forget.ensures.slots)
    (left_state h (λ k. Empty) (λ cells. map.remove cells (name_of_cell c.args.name))
    (cells_ended h.cell))

pub returns-else-name-lt18446744073709551615 : goal.returns-else-name-lt18446744073709551615
returns-else-name-lt18446744073709551615 g c =
    let h = leaves c.self.view_is c.requires.there c.requires.named c.self.invariant.2 in
    let long = long h c.forget.ensures.slots c.end.ensures.slots in
    let before = rw (c.len.ensures, long) at c.retire_one.ensures.before in
    let counts = one_retired _ _ _ c.retire_one.ensures.retired before in
    rw (long, ap (λ k. k.peak) counts, c.end.ensures.slots, c.forget.ensures.slots)
    (left_state h (λ k. Empty) (λ cells. map.remove cells (name_of_cell c.args.name))
    (cells_ended h.cell))
