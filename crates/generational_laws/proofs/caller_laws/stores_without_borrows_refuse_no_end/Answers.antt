use Rattle.generational_core.proofs.machine.{frees_owned, quiet_ends, quiet_free, quiet_fresh}
use Rattle.generational_core.proofs.machine.{quiet_gone, quiet_read, quiet_releases, quiet_sees}
use Rattle.generational_core.proofs.machine.{quiet_set, quiet_stays, test_sees}
use Rattle.generational_laws.proofs.caller_laws.stores_without_borrows_refuse_no_end.Goals as goal

ruleset tests = (test_sees, quiet_sees, quiet_free, quiet_gone, quiet_fresh)

pub returns : goal.returns
returns g c =
    search (tests, quiet_stays, quiet_read, quiet_set, quiet_ends, quiet_releases, frees_owned)
