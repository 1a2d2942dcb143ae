use Rattle.entity_table.specs.{Tables.element_in, Walking.joined_rows}
use Rattle.std.proofs.Common.{length, ◌≡◌}
use Rattle.entity_table.proofs.walk.first_joined.Given as goal

abbrev pub invariant-loop-entity : goal.invariant-loop-entity
invariant-loop-entity g l =
    joined_rows (element_in l.table) l.components ≡ joined_rows (element_in l.table) l.fn.components

abbrev pub decreases-loop-entity : goal.decreases-loop-entity
decreases-loop-entity g l = length l.components
