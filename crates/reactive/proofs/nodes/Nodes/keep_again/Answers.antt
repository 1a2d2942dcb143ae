use Rattle.reactive.proofs.{ap, IsNodeSettled, kind_by_rule, put_kinds, rules, same_Some, subst, sym, ◌∙◌}
use Rattle.reactive.proofs.nodes.Nodes.keep_again.Goals as goal

pub returns-clause-kept : goal.returns-clause-kept
returns-clause-kept g c = λ ok old at.
    let done = c.in-Some.ensures.changed in
    let called = done.called in
    let told : IsNodeSettled done.was c.args.value done.was.reads c.args.self.now.revision done.is = search rules in
    let same = same_Some done.was old (sym done.had ∙ at) in (
      done.is,
      subst (λ n. IsNodeSettled n c.args.value n.reads c.args.self.now.revision done.is) same told,
      done.put,
    )

pub returns-clause-kinds : goal.returns-clause-kinds
returns-clause-kinds g c =
    let done = c.in-Some.ensures.changed in
    let called = done.called in
    let told : IsNodeSettled done.was c.args.value done.was.reads c.args.self.now.revision done.is = search rules in
    put_kinds _ _ c.args.key done.was done.is done.had (ap kind_by_rule told.rule) done.put
