use Rattle.std.proofs.Common.{◌∙◌, ap, map, length, arith, ◌++◌, sym, append_assoc, [], ◌∷◌}
use Rattle.generational_workers.specs.Runs.{all_merged}
use Rattle.generational_workers.proofs.own.gather.Goals as goal

pub loop-own-preserved : goal.loop-own-preserved
loop-own-preserved g c =
    let step = c.in-Some.ensures.steps.0 in
    let kept = c.loop-own.invariant in
    let left = ap length step in
    let one = c.in-Some.own.one in
    let parts = ap (λ t. t.parts) c.in-Ok-merge.ensures in (
      tt,
      tt,
      omega (arith, kept.2, left, one, parts),
      ap (λ w. all_merged w (map (λ s. s.0.tally) c.next.new.self.rest.items)) c.in-Ok-merge.ensures
          ∙ ap (λ l. all_merged c.loop-own.whole (map (λ s. s.0.tally) l)) (sym step) ∙ kept.3,
      ap (λ l. l ++ map (λ s. s.1) c.next.new.self.rest.items) c.in-Ok.ensures.items
          ∙ append_assoc c.loop-own.answers.items (c.in-Some.answer ∷ []) _
          ∙ ap (λ l. c.loop-own.answers.items ++ map (λ s. s.1) l) (sym step) ∙ kept.4,
    )

-- the merged parts and this one's are no more than those of all workers
pub unreachable-requires : goal.unreachable-requires
unreachable-requires g c =
    let left = ap length c.in-Some.ensures.steps.0 in
    let kept = c.loop-own.invariant.2 in
    omega (
      arith,
      c.in_default-merge.ensures.2,
      left,
      kept,
      c.in-Some.own.one,
      c.requires.workers,
    )
