use Rattle.store_parts.proofs.{last_pushed}
use Rattle.store_parts.proofs.pool.OldestFirstSlotPool.put.Goals as goal

pub invariant_of-self : goal.invariant_of-self
invariant_of-self c = rw c.put_last.ensures.slots
    (last_pushed c.args.slot c.self.inside.list.slots c.args.slot)
