use Rattle.entity_table.proofs.{ap, arith, element_in, joined_most, length}
use Rattle.entity_table.proofs.walk.JoinIterator.size_hint.Goals as goal

pub returns-clause-upper : goal.returns-clause-upper
returns-clause-upper g c =
    let most = joined_most (element_in c.self.inside.table.now) c.self.inside.components in
    (tt, omega (arith, most, ap length c.self.view_is, c.len.ensures))
