use Rattle.entity_table.specs.{Components.component_in, Walking.joined_rows}
use Rattle.std.proofs.Common.{length, ◌≡◌}
use Rattle.entity_table.proofs.sparse.first_with.Given as goal

abbrev pub invariant-loop-entity : goal.invariant-loop-entity
invariant-loop-entity g l = joined_rows (component_in l.others) l.components ≡ joined_rows (component_in l.others) l.fn.components

abbrev pub decreases-loop-entity : goal.decreases-loop-entity
decreases-loop-entity g l = length l.components
