use mir.Syntax.{of_param}
use Rattle.std.proofs.Common.{◌≡◌, ◌∙◌, sym, subst, All, ap, length, refl, rules}
use Rattle.std.proofs.lemmas.Result.{IfOk-at_ok, IfOk-weaker}
use Rattle.shared_history.specs.Counts.{Counts}
use Rattle.generational_workers.proofs.Tallies.{length-new_tallies, one_part, put_together}
use Rattle.generational_workers.proofs.alone.run_at_bench.Goals as goal

pub serve_in_turn-bench-requires-send-S-Shared : goal.serve_in_turn-bench-requires-send-S-Shared
serve_in_turn-bench-requires-send-S-Shared g c = λ κs within.
    record { owned = c.type_bounds.send-S-Shared.owned; leaving = c.type_bounds.send-S-Shared.leaving }

pub serve_in_turn-bench-requires-send-S-Answer : goal.serve_in_turn-bench-requires-send-S-Answer
serve_in_turn-bench-requires-send-S-Answer g c = λ κs within.
    record {
      owned = c.type_bounds.send-S-Answer.owned;
      leaving = λ k. c.type_bounds.send-S-Answer.leaving (λ p. k (of_param 8));
    }

pub serve_in_turn-bench-requires-sync-S : goal.serve_in_turn-bench-requires-sync-S
serve_in_turn-bench-requires-sync-S g c = λ κs within.
    record { shared = c.type_bounds.sync-S.shared }

pub serve_in_turn-bench-requires-sync-S-Shared : goal.serve_in_turn-bench-requires-sync-S-Shared
serve_in_turn-bench-requires-sync-S-Shared g c = λ κs within.
    record { shared = c.type_bounds.sync-S-Shared.shared }

pub end_at_bench-requires-send-S-Shared : goal.end_at_bench-requires-send-S-Shared
end_at_bench-requires-send-S-Shared g c = λ κs within.
    record { owned = c.type_bounds.send-S-Shared.owned; leaving = c.type_bounds.send-S-Shared.leaving }

pub end_at_bench-requires-send-S-Answer : goal.end_at_bench-requires-send-S-Answer
end_at_bench-requires-send-S-Answer g c = λ κs within.
    record {
      owned = c.type_bounds.send-S-Answer.owned;
      leaving = λ k. c.type_bounds.send-S-Answer.leaving (λ p. k (of_param 10));
    }

pub end_at_bench-requires-sync-S : goal.end_at_bench-requires-sync-S
end_at_bench-requires-sync-S g c = λ κs within.
    record { shared = c.type_bounds.sync-S.shared }

pub end_at_bench-requires-sync-S-Shared : goal.end_at_bench-requires-sync-S-Shared
end_at_bench-requires-sync-S-Shared g c = λ κs within.
    record { shared = c.type_bounds.sync-S-Shared.shared }

pub serve_in_turn-bench-requires-clause-each : goal.serve_in_turn-bench-requires-clause-each
serve_in_turn-bench-requires-clause-each g c = λ κs within.
    let each = subst (All (λ (d : Counts). d.parts ≡ 1)) (sym c.requires.tallies) (one_part c.args.workers) in
    (search rules, each)

pub end_at_bench-requires-after_bounds : goal.end_at_bench-requires-after_bounds
end_at_bench-requires-after_bounds g c = λ κs within.
    let served = IfOk-at_ok _ c.in-Ok-served.is c.serve_in_turn-bench.ensures.len in
    let all = served ∙ ap length c.requires.tallies ∙ length-new_tallies c.args.workers in
    (search rules, (all, c.requires.workers))

pub returns-in-Ok-served-clause-run : goal.returns-in-Ok-served-clause-run
returns-in-Ok-served-clause-run g c =
    let served = IfOk-at_ok _ c.in-Ok-served.is c.serve_in_turn-bench.ensures.served in
    IfOk-weaker c.end_at_bench.result.outcome _ _ (λ s known.
    put_together _ _ _ c.args.workers _ _ _ _ _ _ _ _ _ _ _ _ c.requires.chief c.in-Ok.ensures.begins
    c.requires.tallies served known.0 known.1.1 refl known.1.2) c.end_at_bench.ensures.counts
