use Rattle.example_callers.proofs.{Err, quiet_ends, quiet_stays, sym, true≢false}
use Rattle.example_callers.proofs.leaving.end_unborrowed.Goals as goal

pub unreachable-requires : goal.unreachable-requires
unreachable-requires g c = true≢false
    (sym (quiet_ends _ {U = Unit {0}} (Err c.in-Err.field-0) c.requires c.in-Err.ensures))

pub returns : goal.returns
returns g c = quiet_stays _ _ c.manually_drop.ensures tt c.requires
