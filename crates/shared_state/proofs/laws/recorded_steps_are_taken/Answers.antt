use Rattle.shared_state.proofs.{leads_over, step_taken}
use Rattle.shared_state.proofs.laws.recorded_steps_are_taken.Goals as goal

pub returns-clause-step : goal.returns-clause-step
returns-clause-step c = step_taken

pub returns-clause-history : goal.returns-clause-history
returns-clause-history c = leads_over
