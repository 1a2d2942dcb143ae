-- Calls, answers and states without their values.
use Rattle.generational_core.specs.Machine.{Action, Answer}
use Rattle.generational_laws.specs.Carrying.{Mapping, map_action, map_answer}
pub use Rattle.generational_core.specs.Plain.{bare, plain}
unfoldable pub use Rattle.generational_core.specs.Plain.{bare_cells}

module _ {T : Type 0} where
  -- a call and an answer without their values
  abbrev pub without_values : Mapping T (Unit {0})
  without_values = record { box = λ b. b; guard = λ g. g; owner = λ o. o; value = bare }

  abbrev pub plain_call : Action T → Action (Unit {0})
  plain_call call = map_action without_values call

  abbrev pub plain_answer : Answer T → Answer (Unit {0})
  plain_answer answer = map_answer without_values answer
