use Rattle.std.proofs.Common.{◌∙◌, sym, rules}
use Rattle.generational_workers.proofs.Tallies.{all_served}
use Rattle.generational_workers.proofs.run.serve_all.Goals as goal

pub returns-in-Ok-clause-len : goal.returns-in-Ok-clause-len
returns-in-Ok-clause-len g c =
    sym c.in-Ok.served.ok.0 ∙ c.in-Ok.ensures.len ∙ c.args.desks.ok.0

pub returns-in-Ok-clause-served : goal.returns-in-Ok-clause-served
returns-in-Ok-clause-served g c =
    let long = sym c.in-Ok.served.ok.0 ∙ c.in-Ok.ensures.len ∙ c.args.desks.ok.0 in
    all_served _ (λ d. d.own.tally) (λ s. s.1) (λ s. s.0.tally) c.args.desks.items
    c.in-Ok.served.items long (λ i d h.
    let it = c.in-Ok.ensures.each i d h in
    (it.1.job, it.1.job_is, let p = it.1.call.met in search rules))
