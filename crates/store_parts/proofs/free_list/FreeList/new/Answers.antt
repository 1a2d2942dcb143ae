use Rattle.store_parts.proofs.{arith, pool_empty}
use Rattle.store_parts.proofs.free_list.FreeList.new.Goals as goal

pub invariant_of-result : goal.invariant_of-result
invariant_of-result c = (pool_empty _, omega arith)
