use Rattle.reactive.proofs.{ap, arith, asked_at, book, is_some, known_by, known_more_at, rules, Some, sym, ◌∙◌}
use Rattle.reactive.proofs.nodes.Nodes.verify.Goals as goal

pub returns-in_default : goal.returns-in_default
returns-in_default g c = λ answers same stand known. (
  sym c.in_default.ensures,
  (
    c.loop-place.place,
    asked_at _ answers c.args.reads.now c.loop-place.place _ same (search (rules, arith))
        (c.loop-place.invariant answers same stand known),
  ),
)

pub returns-then-not-is_known : goal.returns-then-not-is_known
returns-then-not-is_known g c = λ answers same stand known.
    asked_at _ answers c.args.reads.now c.loop-place.place _ same (search (rules, arith))
    (c.loop-place.invariant answers same stand known)

pub loop-place-preserved : goal.loop-place-preserved
loop-place-preserved g c = λ answers same stand known.
    known_more_at (book (g.S.AnyStorage.state c.args.self.now.store) c.args.self.now.links) c.args.since answers c.args.reads.now c.loop-place.place _ c.in-Some.node.now same
    (search (rules, arith)) stand (c.loop-place.invariant answers same stand known) (sym c.in-Some.ensures)
    (ap (λ b. is_some (known_by b (Some c.in-Some.node.now))) (sym c.knows.ensures)
    ∙ (sym c.is_known.ensures ∙ c.if-not-is_known.false)) (search (rules, arith))
