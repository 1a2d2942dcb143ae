use Rattle.entity_table.proofs.{ap, Entity, length, pointer_in, shown_length, sym, ◌∙◌}
use Rattle.entity_table.proofs.walk.IterExactSizeIterator.len.Goals as goal

pub returns-clause-value : goal.returns-clause-value
returns-clause-value g c =
    c.len.ensures.value ∙ (sym (shown_length (λ (p : Entity g.row.T.Denot × Unit {0}). p.0) (λ p. pointer_in p.0) _ _ c.self.invariant)
    ∙ ap length c.self.view_is)
