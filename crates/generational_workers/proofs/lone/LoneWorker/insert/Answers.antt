use Rattle.generational_workers.proofs.Seen.{seen_after_pause}
use Rattle.generational_workers.proofs.lone.LoneWorker.insert.Goals as goal

pub returns-clause-step : goal.returns-clause-step
returns-clause-step g c =
    seen_after_pause _ _ _ _ _ _ _ _ c.keep_pace.ensures c.insert.ensures.step
