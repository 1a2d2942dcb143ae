use Rattle.store_parts.proofs.{changed, held_record, one_less, slice_get, ◌<◌}
use Rattle.store_parts.proofs.owners.OwnerRecords.count_down.Goals as goal

pub invariant_of-self : goal.invariant_of-self
invariant_of-self c =
    let has = held_record (λ r. 0 < r.ownership.count) (slice_get c.self.inside.records.items c.args.position)
    (rw (← c.self.view_is) at c.requires) in
    rw c.count_down_at.ensures (changed c.self.invariant _ c.args.position has one_less).sound

pub returns : goal.returns
returns c =
    let has = held_record (λ r. 0 < r.ownership.count) (slice_get c.self.inside.records.items c.args.position)
    (rw (← c.self.view_is) at c.requires) in
    rw (c.count_down_at.ensures, ← c.self.view_is)
    (changed c.self.invariant _ c.args.position has one_less).owners
