use Rattle.generational_workers.proofs.Seen.{seen_after_pause}
use Rattle.generational_workers.proofs.lone.LoneWorker.owner.Goals as goal

pub returns : goal.returns
returns g c =
    record { step = seen_after_pause _ _ _ _ _ _ _ _ c.keep_pace.ensures c.owner.ensures.step }
