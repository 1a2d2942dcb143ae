use Rattle.std.proofs.Common.{arith}
use Rattle.stamped_values.proofs.{none_left}
use Rattle.stamped_values.proofs.values.StampedValues.clear.Goals as goal

pub returns-in-Some : goal.returns-in-Some
returns-in-Some g c =
    none_left c.self.inside.stamp c.in-Some.next c.self.inside.rows.items c.self.invariant
    (let is = c.in-Some.ensures in omega arith)
