use Rattle.reactive.proofs.{as_it_was, found, IsRelinked, live_there, names_apart, ran_out, refl, relinked_still, rules}
use Rattle.reactive.proofs.{None, none-some, subst, sym, vec_items, ◌∙◌}
use Rattle.reactive.specs.declared.look.Step.TheVariants as step
use Rattle.reactive.proofs.nodes.Nodes.renew.Goals as goal

pub returns-then-keep_again-clause-advanced : goal.returns-then-keep_again-clause-advanced
returns-then-keep_again-clause-advanced g c = λ G n r s at has.
    let (m, there, some, leads) = c.in-Again.ensures.finds G n r s at has in
    let kept = c.keep_again.ensures.kept (search rules) m there in
    let links = relinked_still s c.args.key m there (λ none. none-some leads.rule (sym none ∙ leads.has)) some
    (c.in-Again.ensures.owned c.in-Again.value refl) in
    found s c.args.key m kept.0 c.in-Again.value m.reads there leads kept.1 kept.2
    (c.keep_again.ensures.learned (search rules))
    (subst (λ w. IsRelinked c.args.self.now.links.web c.args.key (vec_items m.reads) w) (sym c.keep_again.ensures.web) links)
    (names_apart _ (g.met.S.AnyStorage.sound _) c.requires.simple c.args.key m there) step.Settled (λ x. x)

pub returns-else-keep_again-clause-advanced : goal.returns-else-keep_again-clause-advanced
returns-else-keep_again-clause-advanced g c = λ G n r s at has.
    ran_out s (c.keep_again.ensures.failed (search rules)) c.args.key step.Full tt

pub returns-then-keep-clause-advanced : goal.returns-then-keep-clause-advanced
returns-then-keep-clause-advanced g c = λ G n r s at has.
    let (m, there, leads) = c.in-New.ensures.finds G n r s at has in
    let kept = c.keep.ensures.kept (search rules) m there in
    found s c.args.key m kept.0 c.in-New.value c.in-New.reads there leads kept.1 kept.2
    (c.keep.ensures.learned (search rules)) (c.keep.ensures.relinked (search rules))
    (names_apart _ (g.met.S.AnyStorage.sound _) c.requires.simple c.args.key m there) step.Settled (λ x. x)

pub returns-else-keep-clause-advanced : goal.returns-else-keep-clause-advanced
returns-else-keep-clause-advanced g c = λ G n r s at has.
    ran_out s (c.keep.ensures.failed (search rules) (live_there at)) c.args.key step.Full tt

pub returns-in-Needs-clause-advanced : goal.returns-in-Needs-clause-advanced
returns-in-Needs-clause-advanced g c = λ G n r s at has.
    as_it_was s c.args.key (step.Needs c.in-Needs.other None) (c.in-Needs.ensures.finds G n r s at has, tt)

pub returns-in-Gone-clause-advanced : goal.returns-in-Gone-clause-advanced
returns-in-Gone-clause-advanced g c = λ G n r s at has.
    as_it_was s c.args.key (step.Gone c.in-Gone.other) (c.in-Gone.ensures.finds G n r s at has)

pub returns-in-NoValue-clause-advanced : goal.returns-in-NoValue-clause-advanced
returns-in-NoValue-clause-advanced g c = λ G n r s at has.
    as_it_was s c.args.key step.NoValue (c.in-NoValue.ensures.finds G n r s at has)
