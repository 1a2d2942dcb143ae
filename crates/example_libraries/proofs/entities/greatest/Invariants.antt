use Rattle.example_libraries.proofs.{slice_get, Some, ℕ, ◌≡◌, ◌≤◌}
use Rattle.example_libraries.proofs.entities.greatest.Given as goal

abbrev pub invariant-rows : goal.invariant-rows
invariant-rows g l = (k : ℕ) (p : _) → slice_get l.yielded k ≡ Some p → p.1.now ≤ l.most
