use Rattle.example_libraries.proofs.{ap, IfOk-weaker, rules, Some, ◌+◌, ◌∙◌, ◌≡◌}
use Rattle.example_libraries.proofs.sessions.added.Goals as goal

pub returns-clause-added : goal.returns-clause-added
returns-clause-added g c =
    IfOk-weaker c.update.result _ _ (λ now done.
    let called = done.3 in
    let grew : (now ≡ done.0 + c.args.more) × (done.1 ≡ now) = search rules in
    (done.0, done.2, grew.0, done.4 ∙ ap Some grew.1)) c.update.ensures.changed
