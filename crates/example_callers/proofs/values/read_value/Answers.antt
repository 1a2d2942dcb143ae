use Rattle.example_callers.proofs.{arith, common_steps, Ok, opens_value, read_leaves, ◌∙◌}
use Rattle.example_callers.proofs.values.read_value.Goals as goal

pub unreachable-requires : goal.unreachable-requires
unreachable-requires g c =
    let read = opens_value _ _ (Ok c.in_ok-guard.guard) c.in_ok-guard.ensures in
    grind (arith, common_steps, c.deref.ensures ∙ read.1)

pub returns : goal.returns
returns g c =
    let read = opens_value _ _ (Ok c.in_ok-guard.guard) c.in_ok-guard.ensures in
    let left = read_leaves _ _ _ _ (g.met.S.AnyStorage.sound _) c.in_ok-guard.ensures c.release.ensures in
    grind (arith, common_steps, c.deref.ensures ∙ read.1, read.2)
