use Rattle.example_libraries.proofs.{slice_get, Some, ℕ, ◌≡◌, ◌≤◌}
use Rattle.example_libraries.proofs.trees.height.Given as goal

abbrev pub invariant-rows : goal.invariant-rows
invariant-rows g l = (i : ℕ) (row : _) → slice_get l.yielded i ≡ Some row → row.0 ≤ l.height
