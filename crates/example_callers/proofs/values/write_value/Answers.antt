use Rattle.example_callers.proofs.{arith, common_steps, Ok, release_lost, rules, set_beside, set_seen}
use Rattle.example_callers.proofs.{written_by}
use Rattle.example_callers.proofs.values.write_value.Goals as goal

pub unreachable-requires : goal.unreachable-requires
unreachable-requires g c = release_lost _ _ c.in_ok-guard.guard _ c.args.value _ c.in_ok-guard.ensures
    c.in-Err.ensures (grind (arith, common_steps))

pub returns : goal.returns
returns g c =
    let set = (written_by _ _ c.in_ok-guard.guard _ c.args.value (Ok c.in-Ok.field-0) c.in_ok-guard.ensures
    c.in-Ok.ensures (grind (arith, common_steps))).1 in
    search (rules, set_seen, set_beside)
