-- The generation of a slot's last cell.
use Rattle.store_cells.proofs.{found, kept, refl, seen}
use Rattle.store_cells.proofs.entries.Entries.generation.Goals as goal

pub returns : goal.returns
returns g c = rw (seen (found (kept c.self.view_is c.self.invariant) c.requires c.index.ensures).1) refl
