use Rattle.std.proofs.Common.{ap}
use Rattle.example_workers.proofs.Adding.{kept_made}
use Rattle.example_workers.proofs.counted.store_number.Goals as goal

pub returns-in-Ok-clause-stored : goal.returns-in-Ok-clause-stored
returns-in-Ok-clause-stored g c = λ e. ap (λ x. x.made) c.in-Ok.ensures.step.step.tally

pub returns-in-Err-clause-full : goal.returns-in-Err-clause-full
returns-in-Err-clause-full g c = λ e. kept_made _ _ _ _ _ c.in-Err.ensures.step
