use Rattle.entity_table.proofs.{fresh_kept, fresh_sees, pointer_in}
use Rattle.entity_table.proofs.table.EntityTable.new.Goals as goal

pub invariant_of-result : goal.invariant_of-result
invariant_of-result g c = rw (c.new.ensures, c.number-number.ensures, c.requires) (fresh_kept _ _ _)

pub returns-clause-none : goal.returns-clause-none
returns-clause-none g c e = rw c.requires (fresh_sees _ _ _ (pointer_in e))
