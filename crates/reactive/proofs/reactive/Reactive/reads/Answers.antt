use Rattle.reactive.proofs.{ap, is_some, known_by, Some, sym, ◌∙◌}
use Rattle.reactive.proofs.Reading.{reads_known}
use Rattle.reactive.proofs.reactive.Reactive.reads.Goals as goal

pub returns-then-is_known-clause-reads : goal.returns-then-is_known-clause-reads
returns-then-is_known-clause-reads g c = rw (← c.self.view_is, c.as_slice.ensures.value)
    (reads_known _ _ _ c.self.invariant.kept c.args.key c.in-Some.node.now (sym c.in-Some.ensures)
    (ap (λ b. is_some (known_by b (Some c.in-Some.node.now))) (sym c.knows.ensures)
    ∙ (sym c.is_known.ensures ∙ c.if-is_known.true)))
