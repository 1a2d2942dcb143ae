use Rattle.entity_table.proofs.{other_entity, unless_same}
use Rattle.entity_table.proofs.sparse.SparseTable.remove.Goals as goal

pub returns-clause-others : goal.returns-clause-others
returns-clause-others g c e ne =
    rw (← c.self.view_is) (unless_same _ _ _ _ (c.swap_remove.ensures.updates.0 e) (other_entity c.args.entity e ne))
