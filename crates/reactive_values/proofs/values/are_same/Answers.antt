use Rattle.reactive_values.proofs.Comparing.{one_more, one_same}
use Rattle.std.proofs.Common.{ap, arith, drop, rules, sym, ◌+◌, ◌∙◌}
use Rattle.std.specs.Prelude.{◌&&◌}
use Rattle.std.specs.Cmp.Lexicographic.{pointwise}
use Rattle.reactive_values.proofs.values.are_same.Goals as goal

pub returns-then-not-same-clause-is : goal.returns-then-not-same-clause-is
returns-then-not-same-clause-is g c =
    let E = g.T.Value.is_same in
    let xs = c.args.xs.now in
    let ys = c.args.ys.now in
    let i = c.loop-i.i in
    let inv = c.loop-i.invariant in
    let one = one_same E xs ys i c.index-xs-i.result c.index-ys-i.result (search (rules, arith))
    (search (rules, arith)) c.index-xs-i.is c.index-ys-i.is in
    sym (inv.1 ∙ (one ∙ ap (λ b. b && pointwise E (drop (i + 1) xs) (drop (i + 1) ys))
    (sym c.same.ensures.is ∙ c.if-not-same.true)))

pub loop-i-preserved : goal.loop-i-preserved
loop-i-preserved g c =
    let E = g.T.Value.is_same in
    let xs = c.args.xs.now in
    let ys = c.args.ys.now in
    let i = c.loop-i.i in
    let inv = c.loop-i.invariant in
    let one = one_same E xs ys i c.index-xs-i.result c.index-ys-i.result (search (rules, arith))
    (search (rules, arith)) c.index-xs-i.is c.index-ys-i.is in (
      inv.0,
      inv.1 ∙ (one ∙ ap (λ b. b && pointwise E (drop (i + 1) xs) (drop (i + 1) ys))
          (sym c.same.ensures.is ∙ c.if-not-same.false)),
      one_more E xs ys i c.index-xs-i.result c.index-ys-i.result (search (rules, arith))
          (search (rules, arith)) c.index-xs-i.is c.index-ys-i.is (search rules) inv.2,
    )
