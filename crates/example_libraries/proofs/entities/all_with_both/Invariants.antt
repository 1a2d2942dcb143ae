use Rattle.std.specs.Prelude.{map, ◌≡◌}
use Rattle.example_libraries.proofs.entities.all_with_both.Given as goal

abbrev pub invariant-walk : goal.invariant-walk
invariant-walk g l = l.list.items ≡ map (λ p. p.0) l.yielded
