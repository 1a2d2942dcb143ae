use Rattle.std.proofs.Common.{◌∙◌, sym, ap}
use Rattle.generational_workers.proofs.Tallies.{last_new, some_new}
use Rattle.generational_workers.proofs.alone.open_bench.Goals as goal

pub unreachable-requires : goal.unreachable-requires
unreachable-requires g c =
    some_new c.args.workers c.in_ok-state.tallies.items
    (sym c.in_ok-state.tallies.ok.0 ∙ c.in_default.ensures.cases.0) c.in_ok-state.ensures.tallies

pub new-requires-3 : goal.new-requires-3
new-requires-3 g c =
    let all = sym c.in-Some.ensures.items ∙ c.in_ok-state.ensures.tallies in
    ap (λ t. t.parts) (last_new c.args.workers _ _ all).1

pub returns-clause-chief : goal.returns-clause-chief
returns-clause-chief g c =
    let all = sym c.in-Some.ensures.items ∙ c.in_ok-state.ensures.tallies in
    c.new-3.ensures ∙ (last_new c.args.workers _ _ all).1

pub returns-clause-tallies : goal.returns-clause-tallies
returns-clause-tallies g c =
    let all = sym c.in-Some.ensures.items ∙ c.in_ok-state.ensures.tallies in
    (last_new c.args.workers _ _ all).0
