use Rattle.store_parts.proofs.{roomed, roomed_there, stands_at}
use Rattle.store_parts.proofs.owners.OwnerRecords.reserve_for.Goals as goal

pub reserve_at-requires : goal.reserve_at-requires
reserve_at-requires c =
    let found = rw (← c.self.view_is) at c.in-Some.ensures in rw found.position tt

pub invariant_of-self : goal.invariant_of-self
invariant_of-self c =
    let found = rw (← c.self.view_is) at c.in-Some.ensures in
    rw c.reserve_at.ensures.same
    (roomed c.self.invariant _ _ (stands_at _ _ _ found.position found.key) _).sound

pub invariant_of-self-2 : goal.invariant_of-self-2
invariant_of-self-2 c =
    let found = rw (← c.self.view_is) at c.in-Some.ensures in
    rw c.reserve_at.ensures.same
    (roomed c.self.invariant _ _ (stands_at _ _ _ found.position found.key) _).sound

pub returns-clause-same : goal.returns-clause-same
returns-clause-same c =
    let found = rw (← c.self.view_is) at c.in-Some.ensures in
    rw (c.reserve_at.ensures.same, ← c.self.view_is)
    (roomed c.self.invariant _ _ (stands_at _ _ _ found.position found.key) _).owners

pub returns-in-Err-clause-same : goal.returns-in-Err-clause-same
returns-in-Err-clause-same c =
    let found = rw (← c.self.view_is) at c.in-Some.ensures in
    rw (c.reserve_at.ensures.same, ← c.self.view_is)
    (roomed c.self.invariant _ _ (stands_at _ _ _ found.position found.key) _).owners

pub returns-clause-ok : goal.returns-clause-ok
returns-clause-ok c =
    let found = rw (← c.self.view_is) at c.in-Some.ensures in
    let there = roomed_there c.self.invariant _ _ (stands_at _ _ _ found.position found.key) _ in
    let same = c.reserve_at.ensures.same in
    rw same (there, rw same at c.in-Ok.ensures.ok)
