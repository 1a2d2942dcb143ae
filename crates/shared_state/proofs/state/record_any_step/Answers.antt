use Rattle.shared_state.proofs.{none_recorded}
use Rattle.shared_state.proofs.state.record_any_step.Goals as goal

pub returns-in-None : goal.returns-in-None
returns-in-None g c = none_recorded (assumption) c.in-None.is
