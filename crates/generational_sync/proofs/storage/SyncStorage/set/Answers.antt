use Rattle.generational_sync.proofs.storage.SyncStorage.set.Goals as goal

pub returns-clause-step : goal.returns-clause-step
returns-clause-step g c =
    (c.set.ensures.step.0, record { old = _; new = _; step = c.set.ensures.step.1 })
