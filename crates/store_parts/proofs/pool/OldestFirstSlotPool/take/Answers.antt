use Rattle.store_parts.proofs.{last_taken}
use Rattle.store_parts.proofs.pool.OldestFirstSlotPool.take.Goals as goal

pub invariant_of-self : goal.invariant_of-self
invariant_of-self c =
    rw c.take.ensures.rest
    (last_taken c.self.inside.last c.self.inside.list.slots c.self.invariant)
