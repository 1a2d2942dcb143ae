use Rattle.store_slots.proofs.{ap, eq-eqb, eqb-true, fresh_of, none_of_fresh, state_is, sym, with_records, ◌∙◌}
use Rattle.std.specs.FinMap as map
use Rattle.store_slots.proofs.slots.Slots.is_fresh.Goals as goal

pub returns : goal.returns
returns g c =
    let view = ap (λ S. with_records S 0 map.empty 0) (state_is c.self.view_is) in (
      λ t. fresh_of _ _ _ view c.self.invariant.0.bounded (sym c.len.ensures ∙ eqb-true _ _ t),
      λ f. eq-eqb _ _ (c.len.ensures ∙ none_of_fresh _ _ _ view c.self.invariant.0.begun f),
    )
