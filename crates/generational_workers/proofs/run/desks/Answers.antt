use Rattle.std.proofs.Common.{◌≡◌, ap, map, ◌++◌, ◌∙◌}
use Rattle.std.proofs.lemmas.List.Elements.{All-rest}
use Rattle.shared_history.specs.Counts.{Counts}
use Rattle.generational_workers.proofs.Tallies.{moved}
use Rattle.generational_workers.proofs.run.desks.Goals as goal

pub loop-tally-preserved : goal.loop-tally-preserved
loop-tally-preserved g c =
    let step = c.in-Some.ensures.steps.0 in
    let kept = c.loop-tally.invariant in (
      tt,
      tt,
      All-rest (λ (d : Counts). d.parts ≡ 1) _ _ _ step kept.2,
      ap (λ l. map (λ d. d.own.tally) l ++ c.next.new.self.rest.items) c.in-Ok.ensures.items
          ∙ moved (λ d. d.own.tally) _ _ _ _ _ _ c.new-own.ensures step kept.3,
    )
