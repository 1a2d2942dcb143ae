use mir.Syntax.{of_param}
use Rattle.generational_workers.proofs.alone.run_named.Goals as goal

pub run_at_bench-requires-send-S-Shared : goal.run_at_bench-requires-send-S-Shared
run_at_bench-requires-send-S-Shared g c = λ κs within.
    record { owned = c.type_bounds.send-S-Shared.owned; leaving = c.type_bounds.send-S-Shared.leaving }

pub run_at_bench-requires-send-S-Answer : goal.run_at_bench-requires-send-S-Answer
run_at_bench-requires-send-S-Answer g c = λ κs within.
    record {
      owned = c.type_bounds.send-S-Answer.owned;
      leaving = λ k. c.type_bounds.send-S-Answer.leaving (λ p. k (of_param 10));
    }

pub run_at_bench-requires-sync-S : goal.run_at_bench-requires-sync-S
run_at_bench-requires-sync-S g c = λ κs within.
    record { shared = c.type_bounds.sync-S.shared }

pub run_at_bench-requires-sync-S-Shared : goal.run_at_bench-requires-sync-S-Shared
run_at_bench-requires-sync-S-Shared g c = λ κs within.
    record { shared = c.type_bounds.sync-S-Shared.shared }
