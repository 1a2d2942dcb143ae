use Rattle.std.proofs.Common.{◌≡◌, ◌∙◌, sym, ap, length}
use Rattle.shared_records.specs.declared.step.Kind.TheVariants.{Made}
use Rattle.example_workers.proofs.Adding.{all_answer, all_made}
use Rattle.example_workers.proofs.counted.fill_alone.Goals as goal

pub total-stored-requires : goal.total-stored-requires
total-stored-requires c =
    let run = rw c.in_ok-served.was at c.run_alone-run.ensures.run in
    all_answer _ c.args.workers _ _ run.served

pub returns : goal.returns
returns c =
    let run = rw c.in_ok-served.was at c.run_alone-run.ensures.run in
    let none = run.last ∙ run.start in
    c.total-stored.ensures ∙ sym (all_made _ (λ old x new e. e) c.args.workers _ _ _ none run.served)
    ∙ sym (run.counted Made)
