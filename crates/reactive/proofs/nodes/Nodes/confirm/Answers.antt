use Rattle.reactive.proofs.{ap, kind_by_rule, put_kinds, rules, ◌≡◌}
use Rattle.reactive.proofs.nodes.Nodes.confirm.Goals as goal

pub returns-clause-kinds : goal.returns-clause-kinds
returns-clause-kinds g c =
    let done = c.in-Some.ensures.changed in
    let called = done.called in
    let told : done.is ≡ record done.was { checked = c.args.self.now.revision } = search rules in
    put_kinds _ _ c.args.key done.was done.is done.had (ap (λ n. kind_by_rule n.rule) told) done.put
