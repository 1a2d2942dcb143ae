use Rattle.example_callers.proofs.{ap, either, IfSome_then, leaves, left_still, rules, sets, Some, sym, ◌+◌}
use Rattle.example_callers.proofs.{◌∙◌, ◌≡◌}
use Rattle.example_callers.proofs.conditions.count_up.Goals as goal

pub returns-clause-before : goal.returns-clause-before
returns-clause-before g c =
    IfSome_then c.with_mut.result c.with_mut.ensures.changed (λ n done.
    let called = done.called in
    let same : done.old ≡ n = search rules in
    (sets _ _ _ done.set).0 ∙ ap Some same)

pub returns-clause-counted : goal.returns-clause-counted
returns-clause-counted g c =
    IfSome_then c.with_mut.result c.with_mut.ensures.changed (λ n done b to.
    let called = done.called in
    let more : done.new ≡ n + 1 = search rules in
    (sets _ _ _ done.set).2 b to ∙ ap Some more)

pub returns-clause-others : goal.returns-clause-others
returns-clause-others g c b apart =
    either c.with_mut.result c.with_mut.ensures.changed c.with_mut.ensures.none
    (λ n done. leaves _ _ _ _ (g.met.S.AnyStorage.sound _) done.set b (λ e. apart (sym e)) tt)
    (left_still b)
