use Rattle.store_parts.proofs.{arith, chain_put, chain_room, first_within, length-set}
use Rattle.store_parts.proofs.{pool_put, refl, ◌<◌}
use Rattle.store_parts.proofs.free_list.FreeList.put_first.Goals as goal

pub overflow_add-self : goal.overflow_add-self
overflow_add-self c =
    let r = rw (← c.self.view_is) at c.requires in
    let more = chain_room _ _ _ _ c.self.invariant.0 r.room r.absent in
    omega (arith, more, c.self.inside.links.ok.0, c.self.inside.links.small)

pub overflow_cast-second : goal.overflow_cast-second
overflow_cast-second c =
    let some : 0 < c.self.inside.count = omega (arith, c.if-self-gt1.true) in
    omega (arith, c.self.invariant.1, first_within _ _ c.self.inside.count some c.self.invariant.0)

pub invariant_of-self : goal.invariant_of-self
invariant_of-self c =
    let l = c.self.inside in
    let r = rw (← c.self.view_is) at c.requires in
    rw (
      chain_put l.links.items _ l.first l.count c.args.slot r.room r.absent (λ some. refl),
      length-set,
    )
    (pool_put c.self.invariant.0 r.room r.absent, c.self.invariant.1)

pub invariant_of-self-else-self-gt1 : goal.invariant_of-self-else-self-gt1
invariant_of-self-else-self-gt1 c =
    let l = c.self.inside in
    let r = rw (← c.self.view_is) at c.requires in
    rw (chain_put l.links.items l.links.items l.first l.count c.args.slot r.room r.absent
    (λ some. absurd (omega (arith, some, c.if-self-gt1.false))))
    (pool_put c.self.invariant.0 r.room r.absent, c.self.invariant.1)

pub returns-then-self-gt1-clause-slots : goal.returns-then-self-gt1-clause-slots
returns-then-self-gt1-clause-slots c =
    let r = rw (← c.self.view_is) at c.requires in
    rw (← c.self.view_is) (chain_put _ _ _ _ c.args.slot r.room r.absent (λ some. refl))
