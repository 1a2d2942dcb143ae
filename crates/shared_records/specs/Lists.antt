-- A list of steps as modelled in contracts.
use Rattle.std.specs.Prelude.{ℕ, List}
use Rattle.shared_records.specs.declared.step.Step.{Step}

-- the steps, and for how many more there is room
pub record StepsState : Type 0 where
  pub steps : List Step
  pub room : ℕ
