use Rattle.std.proofs.Common.{◌∙◌, sym}
use Rattle.generational_workers.proofs.Waits.{this_waits}
use Rattle.generational_workers.proofs.lone.Bench.is_stuck.Goals as goal

pub invariant_of-self : goal.invariant_of-self
invariant_of-self g c =
    record {
      waits = this_waits _ _ c.args.call c.args.self.now.state c.history_replays.ensures
          (sym c.ready.ensures ∙ c.if-ready.false);
    }
