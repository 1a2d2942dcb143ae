-- What the lock protects, as in contracts.
use Rattle.std.specs.Prelude.{◌≡◌, ℕ, ◌+◌, ◌^◌, ◌<◌, ◌≤◌, ◌⊎◌, true, List, [], Option, None, Some}
use Rattle.std.specs.Prelude.{is_some, length}
use Rattle.std.specs.declared.sync.ledger.Blank.{Blank}
use Rattle.generational_errors.specs.declared.error.StoreError.{StoreError}
use Rattle.generational_errors.specs.declared.error.StoreError.TheVariants.{OutOfMemory}
use Rattle.generational_errors.specs.declared.error.StoreError.TheVariants.{NumbersExhausted}
use Rattle.generational_errors.specs.declared.error.StoreError.TheVariants.{UnknownOwner}
use Rattle.generational_core.specs.Rows.{rows_of}
use Rattle.generational_core.specs.declared.steps.StepCall.{StepCall}
use Rattle.generational_core.specs.State.{IsSound, State}
use Rattle.generational_core.specs.Machine.{Action, Answer}
use Rattle.generational_core.specs.Machine.Answer.{Refused as refuses}
use Rattle.generational_core.specs.Steps.{Meets}
use Rattle.generational_core.specs.StepCalls.{recorded_as}
use Rattle.generational_laws.specs.History.{plain}
use Rattle.shared_records.specs.declared.step.Step.{Step}
use Rattle.shared_records.specs.declared.step.StepReply.{StepReply}
use Rattle.shared_history.specs.Bases.{BaseState, Trims, all_trimmed, plain_of}
use Rattle.shared_history.specs.Counts.{Counts}
use Rattle.shared_history.specs.Replies.{Records, answer_kind, raised_by, recorded_reply}
use Rattle.shared_history.specs.History.{replay_from}
use Rattle.shared_state.specs.Answering.{MayAnswer}
use Rattle.shared_state.specs.Relocating.{HistoryLeadsTo}

-- A shared state: the machine's state, a base, and the steps that led on from there.
pub record SharedState (T : Type 0) : Type 0 where
  pub state : State T
  pub base : BaseState
  pub history : List Step

-- the history replays, from the sound state of this store that its base describes, to the state without
-- its values, by the letters of locations
abbrev pub Replays : {T : Type 0} → ℕ → SharedState T → Type 0
Replays number s =
    (s.base.number ≡ number) × IsSound (plain_of s.base)
    × HistoryLeadsTo (plain_of s.base) s.history (plain s.state)

-- a history after a worker's call: another step, by the letters of its locations, if the call and its
-- reply are recorded
abbrev pub RecordsCall : List Step → ℕ → Option StepCall → Option StepReply → List Step → Type 0
RecordsCall steps worker None reply after = after ≡ steps
RecordsCall steps worker (Some call) reply after = Records steps worker call reply after

-- A call of the store with this number, made with a tally: the machine's call and answer, and what became
-- of the shared state and of the tally.
pub record IsStep {T : Type 0} (number : ℕ) (old : SharedState T) (counts : Counts)
    (action : Action T) (answer : Answer T) (new : SharedState T) (raised : Counts) : Type 0 where
  -- it does the machine's step; or an allocation failed, of the machine if it may or of the history in
  -- any case, and nothing changes
  pub state : Meets old.state action answer new.state
      ⊎ ((answer ≡ refuses OutOfMemory) × (new.state ≡ old.state))
  -- the step of the tally's worker is appended, if its reply is recorded, on the same base
  pub history : RecordsCall old.history counts.worker (recorded_as action)
      (recorded_reply new.state action answer) new.history
  pub base : new.base ≡ old.base
  -- and the count of its kind is raised by one
  pub tally : raised ≡ raised_by (answer_kind answer) counts
  -- it is made only with what is of the store, and fails only as it may
  pub reply : MayAnswer number action answer

-- A step of a store whose state isn't known: from some shared state it leads to another.
pub record IsUnseenStep {T : Type 0} (number : ℕ) (counts : Counts) (action : Action T)
    (answer : Answer T) (raised : Counts) : Type 0 where
  pub old : SharedState T
  pub new : SharedState T
  pub step : IsStep number old counts action answer new raised

-- a blank of the ledger with this name, cut into these parts: one for each of so many workers
abbrev pub IsBlank : ℕ → Blank → ℕ → ℕ → ℕ → Type 0
IsBlank workers blank name parts all = (0 < workers)
    × (blank.name ≡ name) × (blank.parts ≡ parts) × (blank.parts ≡ workers) × (all ≡ workers)

-- a list that replays from the sound state that a base describes, of the store with this number
abbrev pub IsHistory : ℕ → BaseState → List Step → Type 0
IsHistory number base steps =
    (base.number ≡ number) × IsSound (plain_of base)
    × (is_some (replay_from (plain_of base) steps) ≡ true)

-- a checkpoint: the base describes the state without its values and counts all steps so far, which are
-- this many, the history is empty, and the state is unchanged
pub record IsCheckpoint {T : Type 0} (old new : SharedState T) (trimmed : ℕ) : Type 0 where
  pub state : new.state ≡ old.state
  pub history : new.history ≡ []
  pub told : plain_of new.base ≡ plain old.state
  pub rows : new.base.rows ≡ rows_of old.state
  pub trims : Trims old.base old.history new.base
  pub counted : trimmed ≡ all_trimmed new.base

-- how a checkpoint fails: if the trimmed steps would be too many, or memory runs out
abbrev pub MayRefuseCheckpoint : {T : Type 0} → SharedState T → StoreError → Type 0
MayRefuseCheckpoint s NumbersExhausted = 2 ^ 64 ≤ all_trimmed s.base + length s.history
MayRefuseCheckpoint s OutOfMemory = all_trimmed s.base + length s.history < 2 ^ 64
MayRefuseCheckpoint s UnknownOwner = ⊥

-- how it fails if the history isn't known
abbrev pub MayRefuseTrimming : StoreError → Type 0
MayRefuseTrimming UnknownOwner = ⊥
MayRefuseTrimming e = Unit {0}
