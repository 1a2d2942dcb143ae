-- A list begins at an index.
use Rattle.store_parts.proofs.{remove_none, table_opened}
use Rattle.store_parts.proofs.table.BorrowTable.open.Goals as goal

pub invariant_of-self : goal.invariant_of-self
invariant_of-self c =
    rw (c.in-Some.ensures.taken, c.take.ensures.rooms)
    (table_opened c.self.invariant c.in-Some.index c.new-list.result)

pub returns-in-None-clause-free : goal.returns-in-None-clause-free
returns-in-None-clause-free c =
    rw (← c.self.view_is, remove_none _ _ c.in-None.ensures.none) c.in-None.ensures.unchanged
