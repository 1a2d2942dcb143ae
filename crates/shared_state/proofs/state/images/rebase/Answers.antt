-- The base counts the steps that were trimmed.
use Rattle.shared_state.proofs.{ap, Bases, LogState, rules, trimmed_within, trims_of, ◌∙◌}
use Rattle.shared_state.proofs.state.images.rebase.Goals as goal

pub of-base-requires : goal.of-base-requires
of-base-requires g c =
    trimmed_within c.args.log.now.bases.base c.args.log.now.steps c.in-Some.steps
    c.in-Some.ensures.counts c.in-Some.ensures.within

pub rebase-requires : goal.rebase-requires
rebase-requires g c = (
  search rules,
  trims_of c.args.log.now.bases.base c.args.log.now.steps c.in-Some.steps
      c.in-Some.ensures.counts c.of-base.result c.of-base.ensures,
)

pub returns-clause-trims : goal.returns-clause-trims
returns-clause-trims g c =
    trims_of c.args.log.now.bases.base c.args.log.now.steps c.in-Some.steps
    c.in-Some.ensures.counts c.take_past.new.self.bases.base
    (ap (λ (l : LogState). l.bases.base) c.take_past.ensures.left
    ∙ (ap (λ (b : Bases). b.base) c.in_ok-outdated.ensures.bases ∙ c.of-base.ensures))
