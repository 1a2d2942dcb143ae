use Rattle.std.proofs.Common.{◌≡◌, ◌<◌, ℕ, Some, false, length, slice_get, slice_index_or, true}
use Rattle.generational_core.specs.Slots.{slots}
use Rattle.generational_core.specs.declared.boxes.GenerationalPointer.{GenerationalPointer}
use Rattle.document_tree.specs.Building.{HaveParts, ArePlacesNoted}
use Rattle.document_tree.proofs.building.spots_of.Given as goal

-- the cells so far are noted
abbrev pub invariant-loop-at : goal.invariant-loop-at
invariant-loop-at g l = record {
  noted : ArePlacesNoted (g.S.AnyStorage.state l.store) l.spots.items l.seen.items;
  listed : HaveParts {T = g.row.T.Denot} l.rows l.spots.items;
  length : length l.seen.items ≡ slots (g.S.AnyStorage.state l.store);
  done : (k : ℕ) (b : GenerationalPointer) → k < l.at → slice_get l.cells.items k ≡ Some b
      → slice_index_or l.seen.items b.id.slot false ≡ true;
}
