-- Steps of a store whose state is known, and calls that aren't carried out, as steps of a store whose state
-- isn't known.
use Rattle.std.proofs.Common.{◌≡◌, ℕ, refl, sym, subst, Option, Some, None, inr}
use Rattle.generational_errors.specs.declared.error.StoreError.TheVariants.{OutOfMemory}
use Rattle.generational_core.specs.Machine.{Action, Answer}
use Rattle.generational_core.specs.Machine.Answer.{Refused as refuses}
use Rattle.generational_core.specs.declared.steps.StepCall.{StepCall}
use Rattle.generational_core.specs.StepCalls.{recorded_as}
use Rattle.shared_state.specs.Shared.{IsStep, IsUnseenStep, RecordsCall, SharedState}
use Rattle.shared_history.specs.Counts.{Counts}
use Rattle.generational_workers.proofs.Keeping.{unseen_parts}

pub seen : {T : Type 0} (number : ℕ) (old : SharedState T) (c : Counts) (action : Action T)
    (answer : Answer T) (new : SharedState T) (d : Counts) → IsStep number old c action answer new d
    → IsUnseenStep number c action answer d
seen number old c action answer new d it = record { old = old; new = new; step = it }

pub seen_parts : {T : Type 0} (number : ℕ) (old : SharedState T) (c : Counts) (action : Action T)
    (answer : Answer T) (new : SharedState T) (d : Counts) → IsStep number old c action answer new d
    → d.parts ≡ c.parts
seen_parts number old c action answer new d it =
    unseen_parts number c action answer d (record { old = old; new = new; step = it })

-- a step with a tally that was left as it was
pub seen_after_pause : {T : Type 0} (number : ℕ) (old : SharedState T) (c d : Counts)
    (action : Action T) (answer : Answer T) (new : SharedState T) (e : Counts) → d ≡ c
    → IsStep number old d action answer new e → IsUnseenStep number c action answer e
seen_after_pause number old c d action answer new e same it =
    subst (λ x. IsUnseenStep number x action answer e) same (seen number old d action answer new e it)

module _ {T : Type 0} (s : SharedState T) where
  unrecorded : (worker : ℕ) (call : Option StepCall) → RecordsCall s.history worker call None s.history
  unrecorded worker None = refl
  unrecorded worker (Some call) = refl

  -- any call may fail to allocate, and then nothing changes
  pub stuck : (number : ℕ) (c : Counts) (action : Action T)
      → IsUnseenStep number c action (refuses OutOfMemory) c
  stuck number c action =
      record {
        old = s;
        new = s;
        step = record {
          state = inr (refl, refl);
          history = unrecorded c.worker (recorded_as action);
          base = refl;
          tally = refl;
          reply = tt;
        };
      }

  pub stuck_after_pause : (number : ℕ) (c d : Counts) (action : Action T) → d ≡ c
      → IsUnseenStep number c action (refuses OutOfMemory) d
  stuck_after_pause number c d action same =
      subst (λ x. IsUnseenStep number c action (refuses OutOfMemory) x) (sym same) (stuck number c action)
