use Rattle.store_parts.proofs.{arith, length-reverse, pool_length, pool_put, reverse-append}
use Rattle.store_parts.proofs.indexes.FreeIndexes.put.Goals as goal

pub push_reserved-requires : goal.push_reserved-requires
push_reserved-requires c =
    let r = rw (← c.self.view_is) at c.requires in
    let most = pool_length (pool_put c.self.invariant.0 r.room r.absent) in
    let few = c.self.inside.indexes.ok.0 in
    omega (arith, most, c.self.invariant.1, length-reverse c.self.inside.indexes.items, few)

pub invariant_of-self : goal.invariant_of-self
invariant_of-self c =
    let r = rw (← c.self.view_is) at c.requires in
    rw (c.push_reserved.ensures.capacity, c.push_reserved.ensures.items, reverse-append)
    (pool_put c.self.invariant.0 r.room r.absent, c.self.invariant.1)
