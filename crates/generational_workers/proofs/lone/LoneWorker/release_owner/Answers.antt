use Rattle.generational_workers.proofs.Seen.{seen_after_pause, stuck_after_pause}
use Rattle.generational_workers.proofs.lone.LoneWorker.release_owner.Goals as goal

pub returns-then-is_stuck-clause-step : goal.returns-then-is_stuck-clause-step
returns-then-is_stuck-clause-step g c =
    stuck_after_pause c.args.self.now.bench.state _ _ _ _ c.keep_pace.ensures

pub returns-clause-step : goal.returns-clause-step
returns-clause-step g c =
    seen_after_pause _ _ _ _ _ _ _ _ c.keep_pace.ensures c.release_owner.ensures.step
