-- Kinds of steps, and how many steps of a kind a history has.
use Rattle.std.specs.Prelude.{ℕ, Bool, true, false, List, Option, None, Some, count_by}
use Rattle.generational_errors.specs.declared.error.Location.{Location}
use Rattle.generational_core.specs.declared.boxes.GenerationalPointer.{GenerationalPointer}
use Rattle.generational_core.specs.declared.owner.OwnerId.{OwnerId}
use Rattle.generational_core.specs.declared.steps.StepCall.{StepCall}
use Rattle.generational_core.specs.declared.steps.StepCall.TheVariants as call
use Rattle.shared_records.specs.declared.step.Step.{Step}
use Rattle.shared_records.specs.declared.step.StepReply.{StepReply}
use Rattle.shared_records.specs.declared.step.StepReply.TheVariants as reply
use Rattle.shared_records.specs.declared.step.Kind.{Kind}
use Rattle.shared_records.specs.declared.step.Kind.TheVariants.{Made, Lent, Changed, Refused}

-- a worker's step
abbrev pub step_of : ℕ → StepCall → StepReply → Step
step_of worker call r = record { worker = worker; call = call; reply = r }

-- the call that makes a box there, on an owner's list if there is one; a shared value; a reference
abbrev pub made_by : Option OwnerId → Location → StepCall
made_by None l = call.Leak l
made_by (Some o) l = call.Insert o l

abbrev pub shared_by : Option OwnerId → Location → StepCall
shared_by None l = call.LeakRc l
shared_by (Some o) l = call.InsertRc o l

abbrev pub referred_by : Option OwnerId → GenerationalPointer → StepCall
referred_by None b = call.LeakReference b
referred_by (Some o) b = call.InsertReference o b

-- the kind of a step with this reply
abbrev pub step_kind : StepReply → Kind
step_kind (reply.Made b) = Made
step_kind (reply.MadeShared id b) = Made
step_kind (reply.Owner o) = Made
step_kind (reply.Reader t) = Lent
step_kind (reply.Writer t) = Lent
step_kind reply.Done = Changed
step_kind (reply.Dropped l) = Refused
step_kind (reply.Store e) = Refused

-- whether two kinds are the same
abbrev pub same_kind : Kind → Kind → Bool
same_kind Made Made = true
same_kind Lent Lent = true
same_kind Changed Changed = true
same_kind Refused Refused = true
same_kind k l = false

-- how many of the steps are of this kind
abbrev pub count_of_kind : Kind → List Step → ℕ
count_of_kind kind steps = count_by (λ (s : Step). same_kind kind (step_kind s.reply)) steps
