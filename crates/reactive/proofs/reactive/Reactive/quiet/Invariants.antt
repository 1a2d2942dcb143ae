use Rattle.reactive.proofs.{effect_at, clean_at, Some, true, ℕ, ◌≡◌, ◌<◌, ◌≤◌}
use Rattle.reactive.specs.declared.effects.Effect.{Effect}
use Rattle.reactive.proofs.reactive.Reactive.quiet.Given as goal

-- The block's slots before this one have nothing to report.
abbrev pub invariant-loop-slot : goal.invariant-loop-slot
invariant-loop-slot g l = (s : ℕ) (e : Effect _) → l.first ≤ s → s < l.slot
    → effect_at l.self-inside.effects.rows.items s ≡ Some e → clean_at l.self-inside.effects.dirty.clean.items s ≡ true
