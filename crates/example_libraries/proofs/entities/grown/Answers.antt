use Rattle.example_libraries.proofs.{ap, IfOk-weaker, rules, Some, ◌+◌, ◌∙◌, ◌≡◌}
use Rattle.example_libraries.proofs.entities.grown.Goals as goal

pub returns-clause-grown : goal.returns-clause-grown
returns-clause-grown g c =
    IfOk-weaker c.update.result _ _ (λ now done.
    let called = done.3 in
    let grew : (now ≡ done.0 + c.args.more) × (done.1 ≡ now) = search rules in
    (done.0, done.2, grew.0, done.4 ∙ ap Some grew.1)) c.update.ensures.changed
