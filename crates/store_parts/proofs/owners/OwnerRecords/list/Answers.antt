use Rattle.store_parts.proofs.{changed, held_record, length, listed_owners, name_of_cell, one_listed}
use Rattle.store_parts.proofs.{slice_get, ◌<◌}
use Rattle.store_parts.proofs.owners.OwnerRecords.list.Goals as goal

pub invariant_of-self : goal.invariant_of-self
invariant_of-self c =
    let has = held_record (λ r. length r.ownership.names < r.rooms)
    (slice_get c.self.inside.records.items c.in-Some.position)
    (rw (c.in-Some.is, ← c.self.view_is) at c.requires) in
    rw c.list_at.ensures (changed c.self.invariant _ c.in-Some.position has
    (one_listed (name_of_cell c.args.name))).sound

pub returns-in-Some : goal.returns-in-Some
returns-in-Some c o reserved =
    rw (c.list_at.ensures, ← c.self.view_is) (listed_owners c.self.invariant o
    c.in-Some.position (name_of_cell c.args.name) (rw (c.in-Some.is, ← c.self.view_is) at reserved))
