use Rattle.entity_table.proofs.{ap, arith, length, refl, sweeps_begun, swept}
use Rattle.entity_table.proofs.components.ComponentTable.sweep.Goals as goal

pub loop-slot-init : goal.loop-slot-init
loop-slot-init g c = rw (← c.self.view_is) (record { swept = sweeps_begun _; number = refl })

pub returns-clause-gone : goal.returns-clause-gone
returns-clause-gone g c = swept c.loop-slot.invariant.swept
    (omega (arith, c.slots-slot-end.ensures.count, ap (λ m. length m.rows) c.self.view_is))
