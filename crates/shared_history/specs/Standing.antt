-- How many borrows are in a state.
use Rattle.std.specs.Prelude.{ℕ, ◌+◌, Bool, true, false, List, [], ◌∷◌, Some, length}
use Rattle.std.specs.FinMap as map
use Rattle.generational_core.specs.Names.{Name}
use Rattle.generational_core.specs.Cells.{Cell, content_of}
use Rattle.generational_core.specs.State.{State, tickets_of}
use Rattle.generational_core.specs.Machine.{Action, Answer}
use Rattle.generational_core.specs.Machine.Answer.{BorrowRefused, Refused, Back, Flag}
use Rattle.generational_core.specs.Machine.Action.{ReleaseReader, ReleaseWriter}
use Rattle.shared_records.specs.declared.step.StepReply.{StepReply}
use Rattle.shared_records.specs.declared.step.StepReply.TheVariants as reply

-- how many borrows a recorded reply begins
abbrev pub lent_by : StepReply → ℕ
lent_by (reply.Reader t) = 1
lent_by (reply.Writer t) = 1
lent_by _ = 0

module _ {T : Type 0} where
  -- whether a call ends a borrow
  abbrev pub ends_borrow : Action T → Bool
  ends_borrow (ReleaseReader g) = true
  ends_borrow (ReleaseWriter g v) = true
  ends_borrow _ = false

  -- at a cell
  abbrev pub borrow_count_of : Cell T → ℕ
  borrow_count_of cell = length (tickets_of (content_of (Some cell)))

  -- at these cells
  abbrev pub borrow_count_in : List (Name × Cell T) → ℕ
  borrow_count_in [] = 0
  borrow_count_in (e ∷ es) = borrow_count_of e.1 + borrow_count_in es

  -- at all live cells
  abbrev pub borrows : State T → ℕ
  borrows S = borrow_count_in (map.entries S.cells)

  -- whether an answer is one that leaves all unchanged
  abbrev pub leaves : Answer T → Bool
  leaves (BorrowRefused t) = true
  leaves (Refused e) = true
  leaves (Back v) = true
  leaves (Flag false) = true
  leaves _ = false
