use Rattle.entity_table.proofs.{arith, sifted, sifts_begun}
use Rattle.entity_table.proofs.table.EntityTable.retain.Goals as goal

pub loop-slot-init : goal.loop-slot-init
loop-slot-init g c = sifts_begun _

pub loop-slot-preserved : goal.loop-slot-preserved
loop-slot-preserved g c = c.sift_slot.ensures _ c.loop-slot.invariant

pub returns-clause-sifted : goal.returns-clause-sifted
returns-clause-sifted g c = sifted c.loop-slot.invariant
    (λ e live. omega (arith, c.slots-slot-end.ensures e live, c.loop-slot-test.false))

pub returns-clause-none : goal.returns-clause-none
returns-clause-none g c = c.loop-slot.invariant.none

pub returns-clause-kept : goal.returns-clause-kept
returns-clause-kept g c = c.loop-slot.invariant.kept

pub returns-clause-tells : goal.returns-clause-tells
returns-clause-tells g c = c.loop-slot.invariant.told
