use Rattle.example_callers.proofs.{arith, common_steps, lends_free, Ok, release_lost, written_by}
use Rattle.example_callers.proofs.conditions.exchange.Goals as goal

pub unreachable-requires : goal.unreachable-requires
unreachable-requires g c =
    release_lost _ _ c.in_ok-guard.guard _ _ _ c.in_ok-guard.ensures.step c.in-Err.ensures
    c.replace-old.ensures.after

pub returns-clause-old : goal.returns-clause-old
returns-clause-old g c =
    let saw = (lends_free _ _ (Ok c.in_ok-guard.guard) c.in_ok-guard.ensures.step).1 in
    let old = c.replace-old.ensures.old in
    grind (arith, common_steps)

pub returns-clause-set : goal.returns-clause-set
returns-clause-set g c = (written_by _ _ c.in_ok-guard.guard _ _ (Ok c.in-Ok.field-0)
    c.in_ok-guard.ensures.step c.in-Ok.ensures c.replace-old.ensures.after).1
