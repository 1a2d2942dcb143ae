use Rattle.shared_records.proofs.{decode_snoc, reached_both, within_at}
use Rattle.std.proofs.{Common.append_assoc, Common.refl, lemmas.List.take_more}
use Rattle.shared_records.specs.declared.short.Short.TheVariants as short
use Rattle.shared_records.specs.Decoding.{tables}
use Rattle.shared_records.proofs.short.decode_all.Goals as goal

pub step_at-step-requires-clause-within : goal.step_at-step-requires-clause-within
step_at-step-requires-clause-within c =
    within_at (tables c.args.locations.now c.args.long.now c.args.far.now) c.args.short.now
    c.loop-item.item-index (short.Name 0 0 0) c.loop-item-test.true c.requires.within

pub loop-item-preserved : goal.loop-item-preserved
loop-item-preserved c =
    let xs = c.args.short.now in
    let i = c.loop-item.item-index in
    let one = take_more xs i (short.Name 0 0 0) c.loop-item-test.true in
    let told = c.step_at-step.ensures in
    let steps = c.loop-item.invariant.steps in
    let reached = c.loop-item.invariant.reached in record {
      steps = rw (c.in_ok-push_some.ensures, steps, one, decode_snoc, ← reached, ← told, append_assoc);
      reached = rw (c.go_on-reached.ensures, one, reached_both, ← reached, told) refl;
    }
