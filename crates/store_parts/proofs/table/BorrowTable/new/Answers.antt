use Rattle.store_parts.proofs.{table_empty}
use Rattle.store_parts.proofs.table.BorrowTable.new.Goals as goal

pub invariant_of-result : goal.invariant_of-result
invariant_of-result c =
    rw (c.new.ensures.items, c.new-2.ensures.empty, c.new-2.ensures.rooms) (table_empty _)
