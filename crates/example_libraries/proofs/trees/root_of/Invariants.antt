use Rattle.example_libraries.proofs.{last_of, ◌≡◌}
use Rattle.example_libraries.proofs.trees.root_of.Given as goal

abbrev pub invariant-up : goal.invariant-up
invariant-up g l = l.root ≡ last_of l.fn.node l.yielded
