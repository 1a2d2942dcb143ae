use Rattle.generational_workers.proofs.Waits.{told}
use Rattle.generational_workers.proofs.alone.close.Goals as goal

pub returns-clause-stuck : goal.returns-clause-stuck
returns-clause-stuck g c = told _ c.args.bench.waits
