use Rattle.example_callers.proofs.{arith, common_steps, false, is_some, None, Ok, opens_free, Option}
use Rattle.example_callers.proofs.{read_leaves, sym, test_sees, ◌∙◌, ◌≡◌}
use Rattle.example_callers.proofs.conditions.read_free.Goals as goal

nothing : {A : Type 0} (o : Option A) → is_some o ≡ false → None ≡ o
nothing o none = grind arith

pub returns-then-not-can_read-clause-seen : goal.returns-then-not-can_read-clause-seen
returns-then-not-can_read-clause-seen g c =
    nothing _ (sym (test_sees _ _ (g.met.S.AnyStorage.sound _)) ∙ grind (arith, common_steps))

pub returns : goal.returns
returns g c =
    let read = c.deref.ensures ∙ opens_free _ _ (Ok c.in_ok-guard.guard) c.in_ok-guard.ensures in
    let left = read_leaves _ _ _ _ (g.met.S.AnyStorage.sound _) c.in_ok-guard.ensures c.release.ensures in
    grind (arith, common_steps)
