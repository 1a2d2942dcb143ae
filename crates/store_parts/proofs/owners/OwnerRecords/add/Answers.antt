use Rattle.store_parts.proofs.{added, ap, arith, filled, length, ◌+◌}
use Rattle.store_parts.proofs.owners.OwnerRecords.add.Goals as goal

pub invariant_of-self : goal.invariant_of-self
invariant_of-self c =
    rw (c.in-Some.ensures.taken, c.take.ensures.rooms)
    (filled c.self.invariant _ c.new-added.ensures.key c.new-added.ensures.held
    (rw (← c.self.view_is) at c.requires) c.in-Some.position c.in-Some.ensures.member).sound

pub invariant_of-self-in-None : goal.invariant_of-self-in-None
invariant_of-self-in-None c =
    let made = c.make_room.ensures in
    rw (made.pool, c.in-None.ensures.unchanged, c.push_reserved.ensures.items, made.slots)
    (added c.self.invariant _ c.new-added.ensures.key c.new-added.ensures.held
    (rw (← c.self.view_is) at c.requires) c.make_room.new.pool.rooms
    (omega (arith, ap length made.slots, c.in-Ok.ensures.grown, c.make_room.new.slots.ok.0))).sound

pub returns-in-Some-clause-ok : goal.returns-in-Some-clause-ok
returns-in-Some-clause-ok c = rw (← c.self.view_is)
    (filled c.self.invariant _ c.new-added.ensures.key c.new-added.ensures.held
    (rw (← c.self.view_is) at c.requires) c.in-Some.position c.in-Some.ensures.member).owners

pub returns-in-Ok-clause-ok : goal.returns-in-Ok-clause-ok
returns-in-Ok-clause-ok c =
    rw (c.push_reserved.ensures.items, c.make_room.ensures.slots, ← c.self.view_is)
    (added c.self.invariant _ c.new-added.ensures.key c.new-added.ensures.held
    (rw (← c.self.view_is) at c.requires) (length c.self.inside.records.items + 1)
    (omega arith)).owners
