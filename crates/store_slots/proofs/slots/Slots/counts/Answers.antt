use Rattle.store_slots.proofs.{all_seen, arith, bound_seen, free_seen, slots_seen, state_is, ◌∙◌}
use Rattle.std.proofs.Common.{rules}
use Rattle.store_slots.proofs.slots.Slots.counts.Goals as goal

pub returns : goal.returns
returns g c =
    let inv = c.self.invariant in
    let view = state_is c.self.view_is in
    let all = all_seen inv.0 view in record {
      slots = c.len-made.ensures ∙ slots_seen inv.0 view;
      free = c.free.ensures ∙ free_seen inv.0 view;
      retired = omega (arith, c.retired.ensures, inv.3);
      peak = search rules;
      bounded = bound_seen inv.0 view;
    }
