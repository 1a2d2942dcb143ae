use Rattle.std.proofs.Common.{◌≡◌, ◌++◌, ℕ, length}
use Rattle.live_cells.specs.Cells.{first_fault, listed_cells}
use Rattle.live_cells.proofs.cells.cells_in.Given as goal

abbrev pub invariant-loop-row : goal.invariant-loop-row
invariant-loop-row l = record {
  listed : l.cells.items ++ listed_cells l.left ≡ listed_cells l.rows;
  fault : first_fault l.left ≡ first_fault l.rows;
}

abbrev pub decreases-loop-row : goal.decreases-loop-row
decreases-loop-row l = length l.left
