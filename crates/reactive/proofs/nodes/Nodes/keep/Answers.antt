use Rattle.reactive.proofs.{ap, IsRelinked, IsNodeSettled, kind_by_rule, put_kinds, rules, same_Some}
use Rattle.reactive.proofs.{subst, sym, ◌∙◌}
use Rattle.reactive.proofs.nodes.Nodes.keep.Goals as goal

pub returns-clause-kept : goal.returns-clause-kept
returns-clause-kept g c = λ ok old at.
    let done = c.in-Some.ensures.changed in
    let called = done.called in
    let told : IsNodeSettled done.was c.args.value c.args.reads c.args.self.now.revision done.is = search rules in
    let same = same_Some done.was old (sym done.had ∙ at) in (
      done.is,
      subst (λ n. IsNodeSettled n c.args.value c.args.reads c.args.self.now.revision done.is) same told,
      done.put,
    )

pub returns-clause-relinked : goal.returns-clause-relinked
returns-clause-relinked g c = λ ok.
    subst (λ l. IsRelinked c.args.self.now.links.web c.args.key c.args.reads.items l.web) (sym c.change.ensures.links)
    (subst (λ xs. IsRelinked c.args.self.now.links.web c.args.key xs c.relink.new.self) c.deref.ensures.value
    (c.relink.ensures.relinked (search rules)))

pub returns-clause-kinds : goal.returns-clause-kinds
returns-clause-kinds g c =
    let done = c.in-Some.ensures.changed in
    let called = done.called in
    let told : IsNodeSettled done.was c.args.value c.args.reads c.args.self.now.revision done.is = search rules in
    put_kinds _ _ c.args.key done.was done.is done.had (ap kind_by_rule told.rule) done.put
