use Rattle.entity_table.proofs.{ap, arith, Entity, length, pointer_in, shown_length, Some, sym, ◌∙◌}
use Rattle.entity_table.proofs.walk.IterIterator.size_hint.Goals as goal

pub returns-clause-lower : goal.returns-clause-lower
returns-clause-lower g c _ =
    let all = shown_length (λ (p : Entity g.row.T.Denot × Unit {0}). p.0) (λ p. pointer_in p.0) _ _ c.self.invariant in
    omega (arith, all, ap length c.self.view_is, c.len-left.ensures)

pub returns-clause-upper : goal.returns-clause-upper
returns-clause-upper g c =
    let all = shown_length (λ (p : Entity g.row.T.Denot × Unit {0}). p.0) (λ p. pointer_in p.0) _ _ c.self.invariant in
    (tt, omega (arith, all, ap length c.self.view_is, c.len-left.ensures))

pub returns-clause-exact : goal.returns-clause-exact
returns-clause-exact g c =
    let same = c.len-left.ensures.value ∙ (sym (shown_length (λ (p : Entity g.row.T.Denot × Unit {0}). p.0) (λ p. pointer_in p.0) _ _ c.self.invariant)
    ∙ ap length c.self.view_is) in
    λ j. (same j, Some (same j))
