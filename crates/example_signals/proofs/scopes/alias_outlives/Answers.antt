use Rattle.example_signals.proofs.{arith, common_steps, ◌∙◌}
use Rattle.signals.specs.Signals.{signal_pointer}
use Rattle.example_signals.proofs.scopes.alias_outlives.Goals as goal

pub returns-in-Ok-end : goal.returns-in-Ok-end
returns-in-Ok-end g c =
    let made = c.in-Ok.ensures in
    let alias = c.in-Ok-alias.ensures in
    let listed = made.listed _ c.requires.empty in
    let left = c.in-Ok-end.ensures.others _ (alias.scopes _ _ c.requires.apart listed)
    (signal_pointer c.in-Ok-alias.alias) (alias.unlisted _ _ listed) in
    let saw = left.seen ∙ (alias.seen ∙ made.seen) in grind (arith, common_steps)
