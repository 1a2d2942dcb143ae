use Rattle.entity_table.proofs.{all_live, Entity, kept_dense, pointer_in, shown_all, shown_sees}
use Rattle.entity_table.proofs.table.EntityTable.iter.Goals as goal

pub invariant_of-result : goal.invariant_of-result
invariant_of-result g c = rw c.iter.ensures (all_live c.self.invariant)

pub returns-clause-rows : goal.returns-clause-rows
returns-clause-rows g c = rw (← c.self.view_is, c.iter.ensures)
    (shown_all (λ (p : Entity g.row.T.Denot × Unit {0}). p.0) (λ p. pointer_in p.0) _ _ (all_live c.self.invariant))

pub returns-clause-shown : goal.returns-clause-shown
returns-clause-shown g c = rw (← c.self.view_is, c.iter.ensures) (λ row e v is.
    let it = shown_sees (λ (p : Entity g.row.T.Denot × Unit {0}). p.0) (λ p. pointer_in p.0) _ _ row e v is in
    rw it.3 at it.4)

pub returns-clause-dense : goal.returns-clause-dense
returns-clause-dense g c = rw (← c.self.view_is) (kept_dense c.self.invariant _)
