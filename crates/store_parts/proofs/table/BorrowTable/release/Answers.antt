-- An index without borrows is free again.
use Rattle.store_parts.proofs.{length-set, table_closed, table_same}
use Rattle.store_parts.proofs.table.BorrowTable.release.Goals as goal

pub invariant_of-self-in-Last : goal.invariant_of-self-in-Last
invariant_of-self-in-Last c =
    rw (c.put.ensures.added, c.put.ensures.rooms)
    (table_same (table_closed c.self.invariant c.args.index.now
    (rw (← c.self.view_is) at c.requires.within))
    (length-set c.self.inside.lists.items c.args.index.now _))
