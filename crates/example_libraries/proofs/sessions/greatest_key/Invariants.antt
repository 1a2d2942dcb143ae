use Rattle.example_libraries.proofs.{slice_get, Some, ℕ, ◌≡◌, ◌≤◌}
use Rattle.example_libraries.proofs.sessions.greatest_key.Given as goal

abbrev pub invariant-walk : goal.invariant-walk
invariant-walk l = (k : ℕ) (p : _) → slice_get l.yielded k ≡ Some p → p.0.now ≤ l.greatest
