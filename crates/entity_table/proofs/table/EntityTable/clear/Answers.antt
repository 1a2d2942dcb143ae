use Rattle.entity_table.proofs.{ap, arith, by_option, dense_empty, element_in, is_some}
use Rattle.entity_table.proofs.table.EntityTable.clear.Goals as goal

pub returns-clause-rows : goal.returns-clause-rows
returns-clause-rows g c =
    let kept = c.loop-slot.invariant in
    dense_empty _ c.iter.ensures.dense (λ e. by_option (element_in c.args.self.now e) (kept.none e)
    (λ v is. kept.gone e (omega (arith, c.slots-slot-end.ensures e (ap is_some is), c.loop-slot-test.false))))
