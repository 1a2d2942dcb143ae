use Rattle.reactive.proofs.{arith, in_range, kept_quiet, le_or, ⊎_elim, ◌+◌, ◌≡◌}
use Rattle.reactive.proofs.reactive.Reactive.quiet.Goals as goal

pub loop-slot-init : goal.loop-slot-init
loop-slot-init g c = λ s e from to there. absurd (omega (arith, from, to))

pub loop-slot-preserved : goal.loop-slot-preserved
loop-slot-preserved g c = λ s e from to there. ⊎_elim
    (λ before. c.loop-slot.invariant s e from (omega (arith, before)) there)
    (λ past.
    let is : s ≡ c.loop-slot.slot = omega (arith, past, to) in
    rw is (c.is_settled.ensures c.if-not-is_settled.false e (rw is at there)))
    (le_or (s + 1) c.loop-slot.slot)

pub invariant_of-self : goal.invariant_of-self
invariant_of-self g c =
    let inv = c.loop-slot.invariant in
    let done = c.loop-slot-test.false in
    let many = rw (← c.self.view_is) at c.slots-many.ensures.many in
    record {
      kept = kept_quiet _ _ c.clear.new.self _ c.self.invariant.kept c.args.block c.clear.ensures.clean c.clear.ensures.others
          (λ s e in_block there.
          let from = in_block.0 in
          let to = in_block.1 in
          let low = in_range _ s e there in
          inv s e (omega (arith, from))
          (⊎_elim (λ full. omega (arith, full, done, to)) (λ short. omega (arith, short.0, low, many, done)) c.block_end-slot-end.ensures.end)
          there);
      blamed = c.self.invariant.blamed;
    }
