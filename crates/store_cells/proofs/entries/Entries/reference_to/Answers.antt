-- A reference to a slot's cell.
use Rattle.store_cells.proofs.{found, kept, refl, seen}
use Rattle.store_cells.proofs.entries.Entries.reference_to.Goals as goal

pub returns : goal.returns
returns g c = rw (seen (found (kept c.self.view_is c.self.invariant) c.requires c.index.ensures).1) refl
