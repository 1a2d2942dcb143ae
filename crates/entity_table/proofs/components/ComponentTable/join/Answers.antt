use Rattle.entity_table.proofs.{element_in, joined_each, joined_rise, joined_sees, same_id_sees, slot_in, ◌∙◌}
use Rattle.entity_table.proofs.components.ComponentTable.join.Goals as goal

pub returns-clause-shown : goal.returns-clause-shown
returns-clause-shown g c i e v w is =
    let it = joined_sees (element_in c.args.table.now) c.iter.result i e v w is in
    (it.2, c.iter.ensures.shown it.0 e w it.1)

pub returns-clause-every : goal.returns-clause-every
returns-clause-every g c e v w sees has =
    let it = c.iter.ensures.every e w has in
    let at = joined_each (element_in c.args.table.now) c.iter.result it.0 it.1 v w it.2
    (same_id_sees c.args.table.now.state _ _ it.3 ∙ sees) in (at.0, it.1, at.1, it.3)

pub returns-clause-ordered : goal.returns-clause-ordered
returns-clause-ordered g c =
    joined_rise (element_in c.args.table.now) slot_in c.iter.result c.iter.ensures.ordered
