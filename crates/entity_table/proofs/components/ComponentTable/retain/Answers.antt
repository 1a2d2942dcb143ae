use Rattle.entity_table.proofs.{ap, arith, components_begun, components_sifted, length, refl}
use Rattle.entity_table.proofs.components.ComponentTable.retain.Goals as goal

pub loop-slot-init : goal.loop-slot-init
loop-slot-init g c = rw (← c.self.view_is) (record { sifted = components_begun _; number = refl })

pub returns-clause-sifted : goal.returns-clause-sifted
returns-clause-sifted g c = components_sifted c.loop-slot.invariant.sifted
    (omega (arith, c.slots-slot-end.ensures.count, ap (λ m. length m.rows) c.self.view_is))
