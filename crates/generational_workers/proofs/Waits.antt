-- Calls that would wait, told of an option.
use Rattle.std.proofs.Common.{◌≡◌, ℕ, arith, refl, subst, false, Option, Some, None}
use Rattle.std.proofs.lemmas.Grind.{merely, common_steps}
use Rattle.std.specs.Prelude.{IfSome}
use Rattle.std.specs.Option.{ForSome}
use Rattle.generational_core.specs.declared.steps.StepCall.{StepCall}
use Rattle.generational_core.specs.StepCalls.{is_ready}
use Rattle.shared_state.specs.Shared.{Replays, SharedState}
use Rattle.generational_workers.specs.Waits.{WouldWait}

-- the only call of an option would wait
pub this_waits : (T : Type 0) (number : ℕ) (call : StepCall) (s : SharedState T) → Replays number s
    → is_ready s.state call ≡ false → ForSome (Some call) (WouldWait T number)
this_waits T number call s replays waits = λ x e.
    let same : call ≡ x = grind (arith, common_steps) in
    subst (λ y. WouldWait T number y) same
    (merely (record { state = s; replays = replays; waits = waits }))

-- what is told of an option is true of what it has
pub told : {A : Type 0} {P : A → Type 0} (o : Option A) → ForSome o P → IfSome o P
told None f = tt
told (Some a) f = f a refl
