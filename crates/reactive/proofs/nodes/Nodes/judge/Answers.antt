use Rattle.reactive.proofs.{arrives, comes_by, no_rule}
use Rattle.reactive.proofs.{ap, asked_goes, asked_needs, is_some, kept_leads, kept_walk, known_anyway, known_by, known_here, needs_gone}
use Rattle.reactive.proofs.{none_if, rules, Some, some_live, sym, ◌∙◌}
use Rattle.std.specs.Prelude.{not}
use Rattle.reactive.proofs.nodes.Nodes.judge.Goals as goal

pub returns-then-is_known-clause-looked : goal.returns-then-is_known-clause-looked
returns-then-is_known-clause-looked g c = λ G s at goes.
    known_here s c.args.key c.args.node.now at
    (known_anyway _ c.args.node.now (sym c.is_known.ensures ∙ c.if-is_known.true))

pub returns-then-is_known-2-clause-looked : goal.returns-then-is_known-2-clause-looked
returns-then-is_known-2-clause-looked g c = λ G s at goes.
    known_here s c.args.key c.args.node.now at
    (ap (λ b. is_some (known_by b (Some c.args.node.now))) (sym c.knows.ensures)
    ∙ (sym c.is_known-2.ensures ∙ c.if-is_known-2.true))

pub returns-in-Same-clause-looked : goal.returns-in-Same-clause-looked
returns-in-Same-clause-looked g c = λ G s at goes.
    let n = c.args.node.now in
    let (v, value, (w, known)) = kept_walk s c.args.key n at c.in-Some.from (rw c.in-Some.is at goes)
    (ap (λ b. is_some (known_by b (Some n))) (sym c.knows.ensures)
    ∙ (sym c.is_known-2.ensures ∙ c.if-is_known-2.false)) (c.is_kept.ensures.value (search rules)) in
    let rule = some_live n.rule (c.is_none.ensures ∙ ap not c.if-is_none.false) in
    let all = c.in-Same.ensures w.answers (w.asked ∙ sym c.deref.ensures.value) w.stand known in
    (n, at, (v, value, kept_leads s c.args.key n at v value w rule.0 rule.1 all))

pub returns-in-Unknown-clause-looked : goal.returns-in-Unknown-clause-looked
returns-in-Unknown-clause-looked g c = λ G s at goes.
    let n = c.args.node.now in
    let (v, value, (w, known)) = kept_walk s c.args.key n at c.in-Some.from (rw c.in-Some.is at goes)
    (ap (λ b. is_some (known_by b (Some n))) (sym c.knows.ensures)
    ∙ (sym c.is_known-2.ensures ∙ c.if-is_known-2.false)) (c.is_kept.ensures.value (search rules)) in
    let is = c.in-Unknown.ensures w.answers (w.asked ∙ sym c.deref.ensures.value) w.stand known in
    (asked_needs s c.args.key n at v value w _ _ is, asked_goes s c.args.key n at v value w _ _ is)

pub returns-in-Gone-clause-looked : goal.returns-in-Gone-clause-looked
returns-in-Gone-clause-looked g c = λ G s at goes.
    let n = c.args.node.now in
    let (v, value, (w, known)) = kept_walk s c.args.key n at c.in-Some.from (rw c.in-Some.is at goes)
    (ap (λ b. is_some (known_by b (Some n))) (sym c.knows.ensures)
    ∙ (sym c.is_known-2.ensures ∙ c.if-is_known-2.false)) (c.is_kept.ensures.value (search rules)) in
    let is = c.in-Gone.ensures w.answers (w.asked ∙ sym c.deref.ensures.value) w.stand known in
    let need = asked_needs s c.args.key n at v value w _ _ is.1.1 in
    (needs_gone s c.args.key c.in-Gone.other need is.0, comes_by c.args.key _ _ need (arrives _), is.0)

pub returns-in_default-clause-looked : goal.returns-in_default-clause-looked
returns-in_default-clause-looked g c = λ G s at goes.
    (c.args.node.now, at, some_live c.args.node.now.rule (c.is_none.ensures ∙ ap not c.if-is_none.false))

pub returns-then-not-is_kept-clause-looked : goal.returns-then-not-is_kept-clause-looked
returns-then-not-is_kept-clause-looked g c = λ G s at goes.
    (c.args.node.now, at, some_live c.args.node.now.rule (c.is_none.ensures ∙ ap not c.if-is_none.false))

pub returns-in-Changed-clause-looked : goal.returns-in-Changed-clause-looked
returns-in-Changed-clause-looked g c = λ G s at goes.
    (c.args.node.now, at, some_live c.args.node.now.rule (c.is_none.ensures ∙ ap not c.if-is_none.false))

pub returns-then-is_none-clause-looked : goal.returns-then-is_none-clause-looked
returns-then-is_none-clause-looked g c = λ G s at goes.
    let n = c.args.node.now in
    no_rule s c.args.key n at _ (none_if n.rule (c.is_none.ensures ∙ ap not c.if-is_none.true))
    (sym c.is_known.ensures ∙ c.if-is_known.false)
