use Rattle.std.proofs.Common.{◌≡◌, ◌∙◌, sym, ap, length}
use Rattle.shared_records.specs.declared.step.Kind.TheVariants.{Made}
use Rattle.example_workers.proofs.Adding.{all_answer, all_made}
use Rattle.example_workers.proofs.counted.fill.Goals as goal

pub total-stored-requires : goal.total-stored-requires
total-stored-requires g c =
    let run = c.in_ok-served.ensures.run in
    all_answer _ c.args.workers _ _ run.served

pub returns : goal.returns
returns g c =
    let run = c.in_ok-served.ensures.run in
    let none = run.last ∙ run.start in
    c.total-stored.ensures ∙ sym (all_made _ (λ old x new e. e) c.args.workers _ _ _ none run.served)
    ∙ sym (run.counted Made)
