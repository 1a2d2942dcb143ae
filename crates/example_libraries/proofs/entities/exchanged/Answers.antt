use Rattle.example_libraries.proofs.{ap, IfOk-weaker, rules, Some, sym, ◌∙◌, ◌≡◌}
use Rattle.example_libraries.proofs.entities.exchanged.Goals as goal

pub returns-clause-exchanged : goal.returns-clause-exchanged
returns-clause-exchanged c =
    IfOk-weaker c.update2.result _ _ (λ answer done.
    let called = done.4.met in
    let first = done.4.shows in
    let left = done.4.leaves in
    let turned : (done.1.0 ≡ done.0.1) × (done.1.1 ≡ done.0.0) = search rules in
    (done.5 ∙ (ap Some turned.0 ∙ sym done.3), done.6 ∙ (ap Some turned.1 ∙ sym done.2))) c.update2.ensures.changed
