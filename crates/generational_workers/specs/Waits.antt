-- Calls that would wait.
use Rattle.std.specs.Prelude.{◌≡◌, ℕ, false}
use Rattle.generational_core.specs.declared.steps.StepCall.{StepCall}
use Rattle.generational_core.specs.StepCalls.{is_ready}
use Rattle.shared_state.specs.Shared.{Replays, SharedState}

-- a state of the store with this number, to which its history leads, in which a borrow is in the call's way
pub record IsInTheWay (T : Type 0) (number : ℕ) (call : StepCall) : Type 0 where
  pub state : SharedState T
  pub replays : Replays number state
  pub waits : is_ready state.state call ≡ false

-- there is such a state
abbrev pub WouldWait : (T : Type 0) → ℕ → StepCall → Type 0
WouldWait T number call = ∥ IsInTheWay T number call ∥₁
