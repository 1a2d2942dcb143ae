use Rattle.example_libraries.proofs.{sym, ◌∙◌}
use Rattle.example_libraries.specs.Formulas.{plan_of}
use Rattle.reactive.specs.Graphs.{plans_in}
use Rattle.reactive.specs.Meaning.{Means}
use Rattle.std.proofs.Common.{subst}
use Rattle.std.proofs.lemmas.Option.{none-some, same_Some}
use Rattle.example_libraries.proofs.memos.unaffected_still.Goals as goal

pub unreachable-requires : goal.unreachable-requires
unreachable-requires g c =
    let shown = c.in_ok-refresh.ensures.shown in
    let same = c.set.ensures.unaffected c.args.memo (λ r. c.requires.apart (rw c.refresh.ensures.plans at r)) in
    none-some shown.0 (c.in-None.ensures.shown ∙ (same ∙ shown.1))

pub returns : goal.returns
returns g c =
    let shown = c.in_ok-refresh.ensures.shown in
    let same = c.set.ensures.unaffected c.args.memo (λ r. c.requires.apart (rw c.refresh.ensures.plans at r)) in
    let one = same_Some shown.0 c.in-Some.value.now (sym (c.in-Some.ensures.shown ∙ (same ∙ shown.1))) in
    subst (Means (plans_in plan_of c.args.graph.now) c.args.memo) one shown.2
