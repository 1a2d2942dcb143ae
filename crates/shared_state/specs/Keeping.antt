-- What holds of what the lock protects, and how a call is made there.
use Rattle.std.specs.Prelude.{◌≡◌, ℕ, ◌≤◌, true, false, Option, Some}
use Rattle.generational_core.specs.declared.steps.StepCall.{StepCall}
use Rattle.generational_core.specs.State.{IsSound, State}
use Rattle.generational_core.specs.Machine.{Action, Answer}
use Rattle.generational_core.specs.Steps.{Meets}
use Rattle.generational_core.specs.StepCalls.{is_ready, recorded_as}
use Rattle.generational_laws.specs.History.{plain}
use Rattle.shared_records.specs.declared.step.StepReply.{StepReply}
use Rattle.shared_history.specs.Bases.{plain_of}
use Rattle.shared_history.specs.Counts.{Counts}
use Rattle.shared_history.specs.Replies.{recorded_reply}
use Rattle.shared_history.specs.Logs.{LogState}
use Rattle.shared_history.specs.Standing.{borrows, ends_borrow}
use Rattle.store_rows.specs.Past.{ArePast}
use Rattle.shared_state.specs.Relocating.{HistoryLeadsTo}
use Rattle.shared_state.specs.Shared.{IsStep, SharedState}

-- What holds whenever the lock is free.
pub record IsKept {T : Type 0} (number : ℕ) (S : State T) (log : LogState) : Type 0 where
  -- the base describes a sound state of this store, from which the history leads to the state without its
  -- values, which is sound too
  pub own : log.bases.base.number ≡ number
  pub sound : IsSound (plain_of log.bases.base)
  pub leads : HistoryLeadsTo (plain_of log.bases.base) log.steps (plain S)
  pub ends : IsSound (plain S)
  -- what its rows and those of the previous base say of where values were made is true
  pub rows : ArePast (plain S) log.bases.base.rows
  pub past : ArePast (plain S) log.bases.past
  -- there is room for the release of each active borrow
  pub room : borrows S ≤ log.standing

-- a store's state with its log, as in contracts
abbrev pub shared : {T : Type 0} → State T → LogState → SharedState T
shared S log = record { state = S; base = log.bases.base; history = log.steps }

-- A call that the store has run, in a state from which the log hasn't gone on yet.
pub record IsAnswered {T : Type 0} (number : ℕ) (S : State T) (log : LogState) (action : Action T)
    (call : StepCall) (answer : Answer T) (reply : Option StepReply) (R : State T) : Type 0 where
  pub kept : IsKept number S log
  pub asked : recorded_as action ≡ Some call
  pub ready : is_ready S call ≡ true
  pub met : Meets S action answer R
  pub replied : reply ≡ recorded_reply R action answer

-- some call had this answer; and it was one that ends a borrow
pub record WasAnswered {T : Type 0} (number : ℕ) (log : LogState) (call : StepCall)
    (reply : Option StepReply) (R : State T) : Type 0 where
  pub before : State T
  pub action : Action T
  pub answer : Answer T
  pub answered : IsAnswered number before log action call answer reply R

pub record HasEnded {T : Type 0} (number : ℕ) (log : LogState) (call : StepCall)
    (reply : Option StepReply) (R : State T) : Type 0 where
  pub some : WasAnswered number log call reply R
  pub ends : ends_borrow some.action ≡ true

-- A call whose answer left the state unchanged.
pub record WasRefused {T : Type 0} (call : StepCall) (reply : Option StepReply) (S : State T) : Type 0 where
  pub action : Action T
  pub answer : Answer T
  pub asked : recorded_as action ≡ Some call
  pub met : Meets S action answer S
  pub replied : reply ≡ recorded_reply S action answer

-- A borrow was in a call's way, and nothing has changed.
pub record IsHindered {T : Type 0} (old : SharedState T) (counts : Counts) (call : StepCall)
    (new : SharedState T) (raised : Counts) : Type 0 where
  pub waits : is_ready old.state call ≡ false
  pub state : new ≡ old
  pub tally : raised ≡ counts

-- What becomes of a call once its reply is recorded: for any call, made in any state, what holds under
-- the lock holds again, and it is a step from there.
pub record IsStepRecorded {T : Type 0} (number : ℕ) (log : LogState) (counts : Counts) (call : StepCall)
    (reply : Option StepReply) (R : State T) (after : LogState) (raised : Counts) : Type 0 where
  pub kept : WasAnswered number log call reply R → IsKept number R after
  pub step : (it : WasAnswered number log call reply R)
      → IsStep number (shared it.before log) counts it.action it.answer (shared R after) raised
