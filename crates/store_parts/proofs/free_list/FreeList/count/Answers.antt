use Rattle.store_parts.proofs.{chain_length, pool_count, sym, ◌∙◌}
use Rattle.store_parts.proofs.free_list.FreeList.count.Goals as goal

pub returns : goal.returns
returns c = rw (← c.self.view_is) (sym (pool_count _ c.self.invariant.0 ∙ chain_length _ _ _))
