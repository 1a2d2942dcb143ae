use Rattle.generational_core.proofs.machine.Calls.{refused_back, refused_end, refused_free_read}
use Rattle.generational_core.proofs.machine.Calls.{refused_free_write, refused_make, refused_owner}
use Rattle.generational_core.proofs.machine.Calls.{refused_read, refused_refer, refused_release}
use Rattle.generational_core.proofs.machine.Calls.{refused_stays, refused_write, unknown_reader}
use Rattle.generational_laws.proofs.caller_laws.refused_calls_change_nothing.Goals as goal

ruleset refused = (refused_make, refused_refer, refused_read, refused_write, refused_owner)

ruleset released = (refused_back, refused_end, refused_release, unknown_reader)

pub returns : goal.returns
returns g c = search (refused_stays, refused, refused_free_read, refused_free_write, released)
