use Rattle.reactive.proofs.{Blame, IsAtFault, Some, stamped_at, ℕ, ◌≡◌, ◌⊎◌}
use Rattle.reactive.proofs.blame.keep_fault.Given as goal

-- A kept fault is one from before, or this one.
abbrev pub invariant-loop-frame : goal.invariant-loop-frame
invariant-loop-frame l = (s : ℕ) (b : Blame) → stamped_at l.faults s ≡ Some b
    → (stamped_at l.fn.faults s ≡ Some b) ⊎ IsAtFault l.path.items l.fn.top l.fault b
