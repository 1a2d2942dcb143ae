use Rattle.std.proofs.Common.{subst}
use Rattle.generational_core.specs.Conditions.{IsBounded}
use Rattle.store_slots.specs.SlotsState.{with_records}
use Rattle.store_slots.proofs.bounding.{table_bounded}
use Rattle.store_slots.proofs.{state_is}
use Rattle.store_slots.proofs.slots.Slots.are_bounded.Goals as goal

pub returns : goal.returns
returns g c number next owners =
    subst (λ S. IsBounded (with_records S number owners next)) (state_is c.self.view_is)
    (table_bounded c.self.invariant.0 number next owners)
