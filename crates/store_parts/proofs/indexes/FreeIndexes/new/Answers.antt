use Rattle.store_parts.proofs.{arith, pool_empty}
use Rattle.store_parts.proofs.indexes.FreeIndexes.new.Goals as goal

pub invariant_of-result : goal.invariant_of-result
invariant_of-result c = rw c.new.ensures.items (pool_empty 0, omega arith)
