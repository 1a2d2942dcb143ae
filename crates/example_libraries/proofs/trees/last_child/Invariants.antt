use Rattle.example_libraries.proofs.{last_in, ◌≡◌}
use Rattle.example_libraries.proofs.trees.last_child.Given as goal

abbrev pub invariant-over : goal.invariant-over
invariant-over g l = l.last ≡ last_in l.yielded
