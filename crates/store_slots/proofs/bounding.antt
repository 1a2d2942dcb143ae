-- The state that slots represent is bounded.
use Rattle.std.proofs.Common.{◌≡◌, ◌<◌, ℕ, true}
use Rattle.std.proofs.Common.{arith, length, refl, is_some, inl, inr}
use Rattle.std.proofs.lemmas.Bool.Decides.{nat_tests}
use Rattle.std.proofs.lemmas.Option.{slice_get_cases}
use Rattle.std.specs.FinMap as map
use Rattle.generational_core.specs.Names.{Name}
use Rattle.generational_core.specs.Conditions.{IsBounded}
use Rattle.generational_core.specs.Slots.{last_name, slots_of}
use Rattle.generational_core.specs.State.{Owners}
use Rattle.store_slots.specs.SlotsState.{cells_of, IsSlotTable, SlotTable, state_of, with_records}
use Rattle.store_slots.proofs.states.Counting.Changes.{bound_seen, get_cells, get_last, len_cells, slots_seen}

module _ {T : Type 0} {p : SlotTable T} (s : IsSlotTable p) (number next : ℕ) (owners : Owners) where
  dense_told : (k : ℕ) → is_some (map.get (slots_of (state_of p.start p.counts.peak p.slots)) k) ≡ true
      → k < length p.slots
  dense_told k is = elim (slice_get_cases p.slots k).1 [
    | inl w ↦ w.1
    | inr w ↦ absurd (let none = rw (get_last s k, w.1) at is in grind arith)
  ]

  last_told : (n : Name) → is_some (map.get (cells_of p.slots) n) ≡ true
      → n ≡ last_name (state_of p.start p.counts.peak p.slots) n.slot
  last_told n is =
      let own = get_cells p.slots n in let last = get_last s n.slot in grind (arith, nat_tests)

  pub table_bounded : IsBounded (with_records (state_of p.start p.counts.peak p.slots) number owners next)
  table_bounded = record {
    few = bound_seen s refl;
    live = omega (arith, len_cells p.slots, s.counted, s.few);
    dense = λ k is. rw (← slots_seen s refl) (dense_told k is);
    last = last_told;
  }
