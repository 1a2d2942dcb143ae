use Rattle.std.proofs.Common.{arith, ◌∙◌}
use Rattle.std.proofs.lemmas.List.{length-append}
use Rattle.handles.proofs.Maps.{count_pushed, row_pushed}
use Rattle.handles.proofs.map.fill.Goals as goal

pub loop-rows-preserved : goal.loop-rows-preserved
loop-rows-preserved g c =
    let kept = c.loop-rows.invariant in rw c.push_reserved.ensures.items (record {
      room = grind arith;
      most = λ n most old. grind (arith, length-append);
      counted = count_pushed c.loop-rows.rows.items ∙ kept.counted;
      same = λ at. row_pushed c.loop-rows.rows.items at ∙ kept.same at;
    })
