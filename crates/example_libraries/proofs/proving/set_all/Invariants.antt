use Rattle.example_libraries.proofs.{All, element_in, Entity, IsOther, ℕ, ◌≡◌}
use Rattle.example_libraries.proofs.proving.set_all.Given as goal

abbrev pub invariant-loop-item : goal.invariant-loop-item
invariant-loop-item g l = (other : Entity ℕ) → All (λ item. IsOther item other) l.items →
    element_in l.stock other ≡ element_in l.fn.stock other
