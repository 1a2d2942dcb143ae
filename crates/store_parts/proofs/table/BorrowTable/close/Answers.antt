-- An index is free again.
use Rattle.store_parts.proofs.{table_closed}
use Rattle.store_parts.proofs.table.BorrowTable.close.Goals as goal

pub invariant_of-self : goal.invariant_of-self
invariant_of-self c =
    rw (c.put.ensures.added, c.put.ensures.rooms)
    (table_closed c.self.invariant c.args.index (rw (← c.self.view_is) at c.requires.within))
