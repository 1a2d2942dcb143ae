use Rattle.example_libraries.proofs.{ap, kind_in, sym, ◌∙◌, ◌≢◌}
use Rattle.example_libraries.proofs.memos.double_in.Goals as goal

pub returns-clause-others : goal.returns-clause-others
returns-clause-others g c = λ k live.
    let first = c.in_ok-source.ensures in
    let second = c.in_ok-twice.ensures in
    let apart : k ≢ c.in_ok-source.source = λ e. live (ap (kind_in c.args.graph.now) e ∙ first.new) in
    let apart_too : k ≢ c.in_ok-twice.twice =
    λ e. live (sym (first.kind.others k apart) ∙ (ap (kind_in c.source.new.graph) e ∙ second.new)) in
    ap (λ G. G k) c.get.ensures.plans ∙ (second.plan.others k apart_too ∙ first.plan.others k apart)
