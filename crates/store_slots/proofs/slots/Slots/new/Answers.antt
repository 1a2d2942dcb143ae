use Rattle.store_slots.proofs.{ap, arith, usable_count, length, nat_cmp, new_state, refl, slotted_new}
use Rattle.store_slots.proofs.{◌∙◌, ◌≡◌}
use Rattle.std.specs.FinSet as set
use Rattle.store_slots.proofs.slots.Slots.new.Goals as goal

pub invariant_of-result : goal.invariant_of-result
invariant_of-result g c =
    let none = ap (λ s. s.slots) c.new-2.ensures in (
      slotted_new _ c.new-3.ensures.empty (rw (c.new.ensures, none) refl) none,
      omega (arith, c.new-3.ensures.rooms),
      rw none (record { each = λ k. tt }),
      rw c.new.ensures (omega arith),
    )

pub returns : goal.returns
returns g c =
    let none = ap (λ s. s.slots) c.new-2.ensures in
    let unused : (usable_count c.new.result (length c.new-2.result.slots)).peak ≡ 0 =
    rw (c.new.ensures, none) refl in
    let empty = ap set.len c.new-3.ensures.empty ∙ set.len-empty nat_cmp in record {
      state = rw unused (new_state c.args.start _ none);
      spare = omega (arith, c.new-3.ensures.rooms, ap length none);
    }
