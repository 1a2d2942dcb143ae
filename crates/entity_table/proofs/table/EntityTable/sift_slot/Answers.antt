use Rattle.entity_table.proofs.{arith, sifts_failed, sifts_none, sifts_passed}
use Rattle.entity_table.proofs.table.EntityTable.sift_slot.Goals as goal

pub returns-in_default : goal.returns-in_default
returns-in_default g c first s = sifts_none s (λ e live slot. grind (arith, c.at.ensures.every e live slot))

pub returns-then-passes : goal.returns-then-passes
returns-then-passes g c first s =
    let answer = c.passes.ensures in
    sifts_passed s c.in-Some.entity answer.0 answer.1 c.in-Some.ensures.live.0
    (λ e live slot. grind (arith, c.at.ensures.every e live slot)) (rw c.if-passes.true at answer.2)

pub returns : goal.returns
returns g c first s =
    let answer = c.passes.ensures in
    let end = c.in-Ok.ensures in
    sifts_failed s c.in-Some.entity answer.0 answer.1 c.in-Some.ensures.live.0
    (λ e live slot. grind (arith, c.at.ensures.every e live slot)) _ end.gone end.others
    (rw c.if-passes.false at answer.2) end.kept end.tells
