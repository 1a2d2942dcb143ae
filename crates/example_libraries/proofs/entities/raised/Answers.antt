use Rattle.example_libraries.proofs.{ap, IfSome_then, rules, Some, ◌∙◌, ◌≡◌}
use Rattle.example_libraries.proofs.entities.raised.Goals as goal

pub returns-clause-before : goal.returns-clause-before
returns-clause-before c =
    IfSome_then c.update.result c.update.ensures.changed (λ n done.
    let called = done.3 in
    let same : done.0 ≡ n = search rules in done.2 ∙ ap Some same)
