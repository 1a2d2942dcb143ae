use Rattle.store_parts.proofs.{changed, held_record, one_more, slice_get, ◌<◌}
use Rattle.store_parts.proofs.owners.OwnerRecords.count_up.Goals as goal

pub invariant_of-self : goal.invariant_of-self
invariant_of-self c =
    let has = held_record (λ r. r.ownership.count < 18446744073709551615) (slice_get c.self.inside.records.items c.args.position)
    (rw (← c.self.view_is) at c.requires) in
    rw c.count_up_at.ensures (changed c.self.invariant _ c.args.position has one_more).sound

pub returns : goal.returns
returns c =
    let has = held_record (λ r. r.ownership.count < 18446744073709551615) (slice_get c.self.inside.records.items c.args.position)
    (rw (← c.self.view_is) at c.requires) in
    rw (c.count_up_at.ensures, ← c.self.view_is)
    (changed c.self.invariant _ c.args.position has one_more).owners
