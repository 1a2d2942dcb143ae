use mir.Syntax.{of_param}
use Rattle.generational_workers.proofs.run.run_workers.Goals as goal

pub run_named-requires-send-T : goal.run_named-requires-send-T
run_named-requires-send-T g c = λ κs within.
    record { owned = c.type_bounds.send-T.owned; leaving = c.type_bounds.send-T.leaving }

pub run_named-requires-send-S-Shared : goal.run_named-requires-send-S-Shared
run_named-requires-send-S-Shared g c = λ κs within.
    record { owned = c.type_bounds.send-S-Shared.owned; leaving = c.type_bounds.send-S-Shared.leaving }

pub run_named-requires-send-S-Answer : goal.run_named-requires-send-S-Answer
run_named-requires-send-S-Answer g c = λ κs within.
    record {
      owned = c.type_bounds.send-S-Answer.owned;
      leaving = λ k. c.type_bounds.send-S-Answer.leaving (λ p. k (of_param 10));
    }

pub run_named-requires-sync-S : goal.run_named-requires-sync-S
run_named-requires-sync-S g c = λ κs within.
    record { shared = c.type_bounds.sync-S.shared }

pub run_named-requires-sync-H : goal.run_named-requires-sync-H
run_named-requires-sync-H g c = λ κs within.
    record { shared = c.type_bounds.sync-H.shared }

pub run_named-requires-sync-S-Shared : goal.run_named-requires-sync-S-Shared
run_named-requires-sync-S-Shared g c = λ κs within.
    record { shared = c.type_bounds.sync-S-Shared.shared }
