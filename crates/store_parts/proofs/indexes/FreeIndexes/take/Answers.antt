use Rattle.store_parts.proofs.{ap, contains-insert_at, eq-eqb, members_take, pool_take, reverse}
use Rattle.store_parts.proofs.{reverse-append}
use Rattle.store_parts.proofs.indexes.FreeIndexes.take.Goals as goal

pub invariant_of-self-2 : goal.invariant_of-self-2
invariant_of-self-2 c =
    let all = rw (ap reverse c.in_ok-index.ensures.items, reverse-append) at c.self.invariant in
    rw c.pop.ensures.capacity (pool_take all.0, all.1)

pub returns-clause-member : goal.returns-clause-member
returns-clause-member c = rw (← c.self.view_is, c.in_ok-index.ensures.items, reverse-append)
    (rw (contains-insert_at, eq-eqb c.in_ok-index.index _))

pub returns-clause-taken : goal.returns-clause-taken
returns-clause-taken c =
    let all = rw (ap reverse c.in_ok-index.ensures.items, reverse-append) at c.self.invariant in
    rw (← c.self.view_is, ap reverse c.in_ok-index.ensures.items, reverse-append)
    (members_take all.0)
