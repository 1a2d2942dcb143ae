use Rattle.generational_core.proofs.machine.Calls.{read_leaves, set_beside, set_owners, set_seen}
use Rattle.generational_laws.proofs.{set_free, writes_back}
use Rattle.generational_laws.proofs.caller_laws.released_borrows_leave_the_rest.Goals as goal

pub returns : goal.returns
returns g c = search (read_leaves, writes_back, set_seen, set_free, set_beside, set_owners)
