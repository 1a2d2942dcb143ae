use Rattle.example_libraries.proofs.{slice_get, Some, ℕ, ◌≡◌, ◌≤◌}
use Rattle.example_libraries.proofs.sessions.latest_use.Given as goal

abbrev pub invariant-walk : goal.invariant-walk
invariant-walk g l = (k : ℕ) (p : _) → slice_get l.yielded k ≡ Some p → p.1.now.used_at ≤ l.latest
