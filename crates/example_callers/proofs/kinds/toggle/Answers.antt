use Rattle.example_callers.proofs.{arith, common_steps, lends, Ok, release_lost, written_by}
use Rattle.example_callers.specs.declared.kinds.Entry.TheVariants as entry
use Rattle.example_callers.proofs.kinds.toggle.Goals as goal

pub unreachable-requires : goal.unreachable-requires
unreachable-requires g c =
    release_lost _ _ c.in_ok-guard.guard _ c.opposite-next.result _ c.in_ok-guard.ensures
    c.in-Err.ensures (grind (arith, common_steps))

pub returns : goal.returns
returns g c =
    let saw = lends _ _ (Ok c.in_ok-guard.guard) c.in_ok-guard.ensures in
    let set = (written_by _ _ c.in_ok-guard.guard _ c.opposite-next.result (Ok c.in-Ok.field-0)
    c.in_ok-guard.ensures c.in-Ok.ensures (grind (arith, common_steps))).1 in grind (arith, common_steps)
