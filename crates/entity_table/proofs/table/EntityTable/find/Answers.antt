use Rattle.entity_table.proofs.{find_listed}
use Rattle.entity_table.proofs.table.EntityTable.find.Goals as goal

pub returns-clause-listed : goal.returns-clause-listed
returns-clause-listed g c = rw (← c.self.view_is)
    (find_listed c.self.inside.rows c.args.id.slot c.in_ok-entity.entity c.in_ok-entity.ensures)
