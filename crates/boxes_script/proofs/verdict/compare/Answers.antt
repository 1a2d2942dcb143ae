use Rattle.boxes_script.proofs.{all_same, ends_differ, one_more, other_ends, same_at}
use Rattle.std.proofs.Common.{arith, length, refl, sym, true≢false, ◌<◌, ◌∙◌}
use Rattle.std.proofs.lemmas.Option.{slice_get_read}
use Rattle.boxes_script.proofs.verdict.compare.Goals as goal

pub loop-place-preserved : goal.loop-place-preserved
loop-place-preserved c =
    let least = c.min-shorter.ensures in
    let within = c.loop-place-test.true in
    let in_ones : c.loop-place.place < length c.args.ones.now = omega (arith, least, within) in
    let in_others : c.loop-place.place < length c.args.others.now = omega (arith, least, within) in
    let one = slice_get_read _ _ _ _ refl in_ones c.index-ones-place.is in
    let other = slice_get_read _ _ _ _ refl in_others c.index-others-place.is in
    one_more _ _ _ c.loop-place.invariant (same_at _ _ _ _ _ one other
    (c.is_same.ensures.0 c.if-not-is_same.false)
    (λ lacks. true≢false (sym (c.is_lacking.ensures.1 lacks) ∙ c.if-is_lacking.false))
    (λ lacks. true≢false
    (sym (c.is_lacking-else-is_lacking.ensures.1 lacks) ∙ c.if-is_lacking-2.false)))

pub returns-then-ones-others : goal.returns-then-ones-others
returns-then-ones-others c =
    let least = c.min-shorter.ensures in
    let past = c.loop-place-test.false in
    let equal = c.if-ones-others.true in
    all_same _ _ _ c.loop-place.invariant (omega (arith, least, past, equal))
    (omega (arith, least, past, equal))

pub returns-else-ones-others : goal.returns-else-ones-others
returns-else-ones-others c =
    let least = c.min-shorter.ensures in
    let past = c.loop-place-test.false in
    let lengths = c.if-ones-others.false in (
      λ i below. c.loop-place.invariant i (omega (arith, below, past)),
      ends_differ _ _ _ least lengths,
      other_ends _ _ _ least lengths,
      other_ends c.args.others.now c.args.ones.now c.min-shorter.result (omega (arith, least))
          (λ e. lengths (sym e)),
    )
