use Rattle.example_libraries.proofs.{Node, slice_get, Some, value_of, ℕ, ◌≡◌, ◌≤◌}
use Rattle.example_libraries.proofs.trees.greatest_value.Given as goal

abbrev pub invariant-over : goal.invariant-over
invariant-over g l = (k : ℕ) (x : Node ℕ) → slice_get l.yielded k ≡ Some x
    → (v : ℕ) → value_of l.tree x ≡ Some v → v ≤ l.greatest
