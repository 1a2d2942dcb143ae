use Rattle.generational_core.proofs.machine.Calls.{keeps_known, keeps_record, lists_reference}
use Rattle.generational_core.proofs.machine.Calls.{lists_shared, owner_number, unknown_owner}
use Rattle.generational_core.proofs.machine.Calls.{unlisted}
use Rattle.generational_laws.proofs.caller_laws.calls_leave_other_owners.Goals as goal

ruleset listed = (lists_shared, lists_reference, unlisted)

pub returns : goal.returns
returns g c = search (keeps_record, keeps_known, unknown_owner, owner_number, listed)
