use Rattle.entity_table.proofs.{EntityKind, listed_count, listed_every, listed_rise, listed_shown}
use Rattle.entity_table.proofs.components.ComponentTable.iter.Goals as goal

pub returns-clause-shown : goal.returns-clause-shown
returns-clause-shown g c = rw (← c.self.view_is, c.iter.ensures) (listed_shown c.self.inside.map)

pub returns-clause-every : goal.returns-clause-every
returns-clause-every g c = rw (← c.self.view_is, c.iter.ensures) (listed_every c.self.inside.map)

pub returns-clause-ordered : goal.returns-clause-ordered
returns-clause-ordered g c = rw c.iter.ensures (listed_rise g.row.T.Denot EntityKind c.self.inside.map)

pub returns-clause-count : goal.returns-clause-count
returns-clause-count g c = rw (← c.self.view_is, c.iter.ensures)
    (listed_count g.row.T.Denot EntityKind c.self.inside.map.number 0 c.self.inside.map.rows)
