use Rattle.reactive.proofs.{as_it_was, found, inr, IsRelinked, names_apart, ran_out, refl, relinked_still, rules}
use Rattle.reactive.proofs.{none-some, Some, subst, sym, vec_items, ◌∙◌}
use Rattle.reactive.specs.declared.look.Step.TheVariants as step
use Rattle.reactive.proofs.nodes.Nodes.advance.Goals as goal

pub returns-in-Known-clause-advanced : goal.returns-in-Known-clause-advanced
returns-in-Known-clause-advanced g c = λ G s goes.
    as_it_was s c.args.key step.Settled (c.in-Known.ensures.looked G s goes)

pub returns-then-confirm-clause-advanced : goal.returns-then-confirm-clause-advanced
returns-then-confirm-clause-advanced g c = λ G s goes.
    let (n, at, (v, value, leads)) = c.in-Right.ensures.looked G s goes in
    let links = relinked_still s c.args.key n at (λ none. none-some leads.rule (sym none ∙ leads.has))
    (λ none. none-some v (sym none ∙ value)) (c.in-Right.ensures.owned refl) in
    found s c.args.key n _ v n.reads at leads
    (record { rule = refl; value = value; asked_by = refl; checked = refl; changed = inr (refl, value) })
    (c.confirm.ensures.confirmed (search rules) n at) (c.confirm.ensures.learned (search rules))
    (subst (λ w. IsRelinked c.args.self.now.links.web c.args.key (vec_items n.reads) w) (sym c.confirm.ensures.web) links)
    (names_apart _ (g.met.S.AnyStorage.sound _) c.requires.simple c.args.key n at) step.Settled (λ x. x)

pub returns-else-confirm-clause-advanced : goal.returns-else-confirm-clause-advanced
returns-else-confirm-clause-advanced g c = λ G s goes.
    ran_out s (c.confirm.ensures.failed (search rules)) c.args.key step.Full tt

pub returns-in-Stale-clause-advanced : goal.returns-in-Stale-clause-advanced
returns-in-Stale-clause-advanced g c = λ G s goes.
    let (n, at, (r, has)) = c.in-Stale.ensures.looked G s goes in c.renew.ensures.advanced G n r s at has

pub returns-in-Needs-clause-advanced : goal.returns-in-Needs-clause-advanced
returns-in-Needs-clause-advanced g c = λ G s goes.
    as_it_was s c.args.key (step.Needs c.in-Needs.other (Some c.in-Needs.at)) (c.in-Needs.ensures.looked G s goes)

pub returns-in-Gone-clause-advanced : goal.returns-in-Gone-clause-advanced
returns-in-Gone-clause-advanced g c = λ G s goes.
    as_it_was s c.args.key (step.Gone c.in-Gone.other) (c.in-Gone.ensures.looked G s goes)

pub returns-in-NoValue-clause-advanced : goal.returns-in-NoValue-clause-advanced
returns-in-NoValue-clause-advanced g c = λ G s goes.
    as_it_was s c.args.key step.NoValue (c.in-NoValue.ensures.looked G s goes)
