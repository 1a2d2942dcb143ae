use Rattle.entity_table.proofs.{other_entity, unless_same}
use Rattle.entity_table.proofs.sparse.SparseTable.insert.Goals as goal

pub returns-in-Ok-clause-others : goal.returns-in-Ok-clause-others
returns-in-Ok-clause-others g c e ne =
    rw (← c.self.view_is) (unless_same _ _ _ _ (c.in-Ok.ensures.updates.0 e) (other_entity c.args.entity e ne))
