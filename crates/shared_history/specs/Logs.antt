-- A log, as in contracts.
use Rattle.std.specs.Prelude.{ℕ, List}
use Rattle.generational_core.specs.declared.rows.BaseRow.{BaseRow}
use Rattle.shared_records.specs.declared.step.Step.{Step}
use Rattle.shared_history.specs.Bases.{BaseState}

-- A base, and the rows of the one before it, into which the next one's are packed.
pub record Bases : Type 0 where
  pub base : BaseState
  pub past : List BaseRow

-- A history with its bases, and with what is reserved in it: the borrows for whose release there is room,
-- and for how many steps in addition to these there is room.
pub record LogState : Type 0 where
  pub bases : Bases
  pub steps : List Step
  pub standing : ℕ
  pub room : ℕ
