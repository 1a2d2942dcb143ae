use mir.Syntax.{of_param}
use Rattle.std.proofs.Common.{◌≡◌, ◌∙◌, ap, All, sym, map, length, ◌++◌, [], ◌∷◌, append_assoc, subst}
use Rattle.std.proofs.Common.{arith, length-append}
use Rattle.std.proofs.lemmas.List.{append-nil, nil_from_length}
use Rattle.std.proofs.lemmas.List.Elements.{All-rest}
use Rattle.shared_history.specs.Counts.{Counts}
use Rattle.generational_workers.specs.Runs.{HaveServed}
use Rattle.generational_workers.proofs.Tallies.{served_more}
use Rattle.generational_workers.proofs.alone.serve_in_turn.Goals as goal

pub loop-tally-preserved : goal.loop-tally-preserved
loop-tally-preserved g c =
    let step = c.in-Some.ensures.steps.0 in
    let kept = c.loop-tally.invariant in
    let left = ap length step in
    let more = ap length c.in-Ok.ensures.items ∙ length-append c.loop-tally.served.items _ in
    let it = subst (λ x. (g.S.Job).serves c.args.service.now c.args.shared x c.serve_one-left.result.2
    c.serve_one-left.result.1.tally) c.new-given.ensures c.serve_one-left.ensures in (
      tt,
      tt,
      All-rest (λ (d : Counts). d.parts ≡ 1) _ _ _ step kept.2,
      omega (arith, kept.3, left, more),
      (
        kept.4.0 ++ c.in-Some.tally ∷ [],
        append_assoc kept.4.0 (c.in-Some.tally ∷ []) _ ∙ ap (λ l. kept.4.0 ++ l) (sym step) ∙ kept.4.1,
        served_more ((g.S.Job).serves c.args.service.now c.args.shared) (λ s. s.1) (λ s. s.0.tally) kept.4.0
            c.loop-tally.served.items _ c.in-Some.tally _ c.in-Ok.ensures.items kept.4.2 it,
      ),
    )

pub new-given-requires : goal.new-given-requires
new-given-requires g c =
    (subst (All (λ (d : Counts). d.parts ≡ 1)) c.in-Some.ensures.steps.0 c.loop-tally.invariant.2) 0 c.in-Some.tally
    (omega arith)

pub serve_one-left-requires-send-S-Shared : goal.serve_one-left-requires-send-S-Shared
serve_one-left-requires-send-S-Shared g c = λ κs within.
    record { owned = c.type_bounds.send-S-Shared.owned; leaving = c.type_bounds.send-S-Shared.leaving }

pub serve_one-left-requires-send-S-Answer : goal.serve_one-left-requires-send-S-Answer
serve_one-left-requires-send-S-Answer g c = λ κs within.
    record {
      owned = c.type_bounds.send-S-Answer.owned;
      leaving = λ k. c.type_bounds.send-S-Answer.leaving (λ p. k (of_param 8));
    }

pub serve_one-left-requires-sync-S : goal.serve_one-left-requires-sync-S
serve_one-left-requires-sync-S g c = λ κs within.
    record { shared = c.type_bounds.sync-S.shared }

pub serve_one-left-requires-sync-S-Shared : goal.serve_one-left-requires-sync-S-Shared
serve_one-left-requires-sync-S-Shared g c = λ κs within.
    record { shared = c.type_bounds.sync-S-Shared.shared }

pub loop-tally-init : goal.loop-tally-init
loop-tally-init g c =
    let begun = c.into_iter-tally-iterator.ensures.into_iter_gives.0 in
    let none = c.new-served.ensures.items in (
      tt,
      tt,
      subst (All (λ (d : Counts). d.parts ≡ 1)) (sym begun) c.requires.each,
      omega (arith, ap length none, ap length begun),
      (
        [],
        begun,
        subst (λ l. HaveServed ((g.S.Job).serves c.args.service.now c.args.shared) []
            (map (λ s. s.1) l) (map (λ s. s.0.tally) l)) (sym none) tt,
      ),
    )

pub returns-clause-served : goal.returns-clause-served
returns-clause-served g c =
    let kept = c.loop-tally.invariant in
    let none = nil_from_length _ (sym c.loop-tally.tally-iterator.rest.ok.0 ∙ c.in-None.ensures.steps.0) in
    let all = sym (append-nil kept.4.0) ∙ ap (λ l. kept.4.0 ++ l) (sym none) ∙ kept.4.1 in
    subst (λ l. HaveServed ((g.S.Job).serves c.args.service.now c.args.shared) l
    (map (λ s. s.1) c.loop-tally.served.items) (map (λ s. s.0.tally) c.loop-tally.served.items)) all kept.4.2
