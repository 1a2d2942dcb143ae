use Rattle.store_parts.proofs.{held_record, slice_get, taken}
use Rattle.store_parts.proofs.owners.OwnerRecords.remove.Goals as goal

pub invariant_of-self : goal.invariant_of-self
invariant_of-self c =
    let has = held_record (λ r. Unit {0}) (slice_get c.self.inside.records.items c.args.position)
    (rw (← c.self.view_is) at c.requires) in
    rw (c.put.ensures.added, c.put.ensures.rooms)
    (taken c.self.invariant _ c.args.position has).sound

pub returns : goal.returns
returns c =
    let has = held_record (λ r. Unit {0}) (slice_get c.self.inside.records.items c.args.position)
    (rw (← c.self.view_is) at c.requires) in
    rw (← c.self.view_is) (taken c.self.invariant _ c.args.position has).owners
