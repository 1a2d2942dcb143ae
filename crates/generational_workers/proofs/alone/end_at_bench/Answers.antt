use Rattle.std.proofs.Common.{sym, subst}
use Rattle.std.proofs.lemmas.Result.{IfOk-weaker}
use Rattle.generational_workers.proofs.alone.end_at_bench.Goals as goal

pub returns-in-Ok-clause-counts : goal.returns-in-Ok-clause-counts
returns-in-Ok-clause-counts g c =
    IfOk-weaker c.close.result.outcome _ _ (λ s known. (
      known.1,
      (
        c.end-ended.new.worker.own.tally,
        subst (λ e. (g.S.Service).ends c.args.service.now c.args.shared c.args.last.own.tally e
            c.end-ended.new.worker.own.tally) (sym known.0) c.in-Ok.ensures.ends,
        known.2,
      ),
    )) c.close.ensures.counts
