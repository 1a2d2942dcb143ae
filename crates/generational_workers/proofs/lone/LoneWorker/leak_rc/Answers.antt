use Rattle.generational_workers.proofs.Seen.{seen_after_pause}
use Rattle.generational_workers.proofs.lone.LoneWorker.leak_rc.Goals as goal

pub returns-clause-step : goal.returns-clause-step
returns-clause-step g c =
    seen_after_pause _ _ _ _ _ _ _ _ c.keep_pace.ensures c.leak_rc.ensures.step
