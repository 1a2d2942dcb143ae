use Rattle.shared_state.proofs.{recorded}
use Rattle.shared_state.proofs.state.record_step.Goals as goal

pub returns : goal.returns
returns g c =
    recorded (assumption) c.add_step.ensures.bases c.add_step.ensures.steps c.add_step.ensures.tally
    c.add_step.ensures.standing
