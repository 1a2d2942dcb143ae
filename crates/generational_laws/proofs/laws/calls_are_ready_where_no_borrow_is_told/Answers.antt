use Rattle.generational_core.proofs.machine.Calls.Steps.Changes.{ready_free, ready_told}
use Rattle.generational_laws.proofs.laws.calls_are_ready_where_no_borrow_is_told.Goals as goal

pub returns : goal.returns
returns g c = search (ready_told, ready_free)
