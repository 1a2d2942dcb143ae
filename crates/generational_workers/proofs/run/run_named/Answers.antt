use mir.Syntax.{of_param}
use Rattle.std.proofs.Common.{◌∙◌, sym, ap, length}
use Rattle.std.proofs.lemmas.List.{length-map}
use Rattle.generational_workers.proofs.Tallies.{length-new_tallies, put_together}
use Rattle.generational_workers.proofs.run.run_named.Goals as goal

pub serve_all-requires-send-T : goal.serve_all-requires-send-T
serve_all-requires-send-T g c = λ κs within.
    record { owned = c.type_bounds.send-T.owned; leaving = c.type_bounds.send-T.leaving }

pub serve_all-requires-send-M : goal.serve_all-requires-send-M
serve_all-requires-send-M g c = λ κs within.
    record {
      owned = c.type_bounds.send-M.owned;
      leaving = λ k. c.type_bounds.send-M.leaving (λ p. k (of_param 2));
    }

pub serve_all-requires-send-L : goal.serve_all-requires-send-L
serve_all-requires-send-L g c = λ κs within.
    record {
      owned = c.type_bounds.send-L.owned;
      leaving = λ k. c.type_bounds.send-L.leaving (λ p. k (of_param 3));
    }

pub serve_all-requires-send-C : goal.serve_all-requires-send-C
serve_all-requires-send-C g c = λ κs within.
    record {
      owned = c.type_bounds.send-C.owned;
      leaving = λ k. c.type_bounds.send-C.leaving (λ p. k (of_param 4));
    }

pub serve_all-requires-send-R : goal.serve_all-requires-send-R
serve_all-requires-send-R g c = λ κs within.
    record {
      owned = c.type_bounds.send-R.owned;
      leaving = λ k. c.type_bounds.send-R.leaving (λ p. k (of_param 5));
    }

pub serve_all-requires-send-S-Shared : goal.serve_all-requires-send-S-Shared
serve_all-requires-send-S-Shared g c = λ κs within.
    record { owned = c.type_bounds.send-S-Shared.owned; leaving = c.type_bounds.send-S-Shared.leaving }

pub serve_all-requires-send-S-Answer : goal.serve_all-requires-send-S-Answer
serve_all-requires-send-S-Answer g c = λ κs within.
    record {
      owned = c.type_bounds.send-S-Answer.owned;
      leaving = λ k. c.type_bounds.send-S-Answer.leaving (λ p. k (of_param 9));
    }

pub serve_all-requires-sync-M : goal.serve_all-requires-sync-M
serve_all-requires-sync-M g c = λ κs within.
    record { shared = c.type_bounds.sync-M.shared }

pub serve_all-requires-sync-L : goal.serve_all-requires-sync-L
serve_all-requires-sync-L g c = λ κs within.
    record { shared = c.type_bounds.sync-L.shared }

pub serve_all-requires-sync-C : goal.serve_all-requires-sync-C
serve_all-requires-sync-C g c = λ κs within.
    record { shared = c.type_bounds.sync-C.shared }

pub serve_all-requires-sync-R : goal.serve_all-requires-sync-R
serve_all-requires-sync-R g c = λ κs within.
    record { shared = c.type_bounds.sync-R.shared }

pub serve_all-requires-sync-S : goal.serve_all-requires-sync-S
serve_all-requires-sync-S g c = λ κs within.
    record { shared = c.type_bounds.sync-S.shared }

pub serve_all-requires-sync-H : goal.serve_all-requires-sync-H
serve_all-requires-sync-H g c = λ κs within.
    record { shared = c.type_bounds.sync-H.shared }

pub serve_all-requires-sync-S-Shared : goal.serve_all-requires-sync-S-Shared
serve_all-requires-sync-S-Shared g c = λ κs within.
    record { shared = c.type_bounds.sync-S-Shared.shared }

pub gather-requires-clause-all : goal.gather-requires-clause-all
gather-requires-clause-all g c =
    c.in_ok-served.ensures.len ∙ sym (length-map c.in_ok-chief.desks.items (λ d. d.own.tally))
    ∙ ap length c.in_ok-chief.ensures.desks ∙ length-new_tallies c.args.workers

pub gather-requires-clause-workers : goal.gather-requires-clause-workers
gather-requires-clause-workers g c = c.requires.made.4

pub returns-clause-run : goal.returns-clause-run
returns-clause-run g c =
    put_together _ _ _ c.args.workers _ _ _ _ _ _ _ _ _ _ _ _ c.in_ok-chief.ensures.chief
    c.in_ok-shared.ensures.begins c.in_ok-chief.ensures.desks c.in_ok-served.ensures.served
    c.in_ok-whole.ensures.answers c.in_ok-end.ensures.ends c.in_ok-whole.ensures.merged
    c.in_ok-base.ensures.counts
