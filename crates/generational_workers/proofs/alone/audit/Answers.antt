use Rattle.generational_workers.proofs.Tallies.{counted_so}
use Rattle.generational_workers.proofs.alone.audit.Goals as goal

pub returns-clause-counts : goal.returns-clause-counts
returns-clause-counts g c =
    let found = c.in_ok-base.ensures in
    counted_so _ _ _ _ _ _ c.in_ok-whole.ensures.merged found.base found.steps found.counts
