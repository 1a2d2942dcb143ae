use Rattle.generational_workers.proofs.Seen.{seen_after_pause, stuck_after_pause}
use Rattle.generational_workers.proofs.lone.LoneWorker.try_write.Goals as goal

pub returns-then-is_stuck : goal.returns-then-is_stuck
returns-then-is_stuck g c =
    record { step = stuck_after_pause c.args.self.now.bench.state _ _ _ _ c.keep_pace.ensures }

pub returns : goal.returns
returns g c =
    record { step = seen_after_pause _ _ _ _ _ _ _ _ c.keep_pace.ensures c.try_write.ensures.step }
