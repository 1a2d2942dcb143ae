use Rattle.reactive.proofs.{effect_at, length, ◌+◌, ◌≡◌, ℕ}
use Rattle.std.specs.Prelude.{◌-◌}
use Rattle.reactive.proofs.effects.Effects.reserve.Given as goal

-- Each slot has the effect that it had.
abbrev pub invariant-loop-self : goal.invariant-loop-self
invariant-loop-self g l = (l.self.dirty ≡ l.fn.self.dirty)
    × ((s : ℕ) → effect_at l.self.rows.items s ≡ effect_at l.fn.self.rows.items s)

abbrev pub decreases-loop-self : goal.decreases-loop-self
decreases-loop-self g l = (l.slot + 1) - length l.self.rows.items
