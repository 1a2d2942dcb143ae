-- Where a slot's cell was made, and how many references name it.
use Rattle.store_cells.proofs.{arith, found_details, kept, refl, seen}
use Rattle.store_cells.proofs.entries.Entries.details.Goals as goal

pub returns : goal.returns
returns g c =
    let a = (found_details (kept c.self.view_is c.self.invariant) c.requires c.index.ensures).1 in
    rw (seen a) (record { references = refl; created = grind arith })
