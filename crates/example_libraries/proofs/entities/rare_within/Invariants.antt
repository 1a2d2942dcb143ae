use Rattle.example_libraries.proofs.{slice_get, Some, ℕ, ◌≡◌, ◌≤◌}
use Rattle.example_libraries.proofs.entities.rare_within.Given as goal

abbrev pub invariant-walk : goal.invariant-walk
invariant-walk g l = (k : ℕ) (p : _) → slice_get l.yielded k ≡ Some p → p.2.now ≤ p.1.now
