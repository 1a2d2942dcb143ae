-- Steps by the letters of their locations, even if the texts are elsewhere in memory.
use Rattle.std.specs.Prelude.{◌≡◌, List, [], ◌∷◌, ◌++◌}
use Rattle.generational_errors.specs.declared.error.Location.{Location}
use Rattle.generational_core.specs.declared.boxes.GenerationalPointer.{GenerationalPointer}
use Rattle.generational_core.specs.declared.steps.StepCall.{StepCall}
use Rattle.generational_core.specs.declared.steps.StepCall.TheVariants as call
use Rattle.shared_records.specs.declared.step.Step.{Step}
use Rattle.shared_records.specs.declared.step.StepReply.{StepReply}
use Rattle.shared_records.specs.declared.step.StepReply.TheVariants as reply
use Rattle.shared_records.specs.Kinds.{step_of}

-- with each location turned by a function: a box, a call, a reply and a step
module _ (p : Location → Location) where
  abbrev pub relocate_box : GenerationalPointer → GenerationalPointer
  relocate_box b = record b { created_at = p b.created_at }

  abbrev pub relocate_call : StepCall → StepCall
  relocate_call (call.Leak l) = call.Leak (p l)
  relocate_call (call.LeakRc l) = call.LeakRc (p l)
  relocate_call (call.LeakReference b) = call.LeakReference (relocate_box b)
  relocate_call call.Owner = call.Owner
  relocate_call (call.CloneOwner o) = call.CloneOwner o
  relocate_call (call.Insert o l) = call.Insert o (p l)
  relocate_call (call.InsertRc o l) = call.InsertRc o (p l)
  relocate_call (call.InsertReference o b) = call.InsertReference o (relocate_box b)
  relocate_call (call.Read b l) = call.Read (relocate_box b) (p l)
  relocate_call (call.Write b l) = call.Write (relocate_box b) (p l)
  relocate_call (call.Set b) = call.Set (relocate_box b)
  relocate_call (call.ManuallyDrop b) = call.ManuallyDrop (relocate_box b)
  relocate_call (call.PointTo a b) = call.PointTo (relocate_box a) (relocate_box b)
  relocate_call (call.ReleaseRead t) = call.ReleaseRead t
  relocate_call (call.ReleaseWrite t) = call.ReleaseWrite t
  relocate_call (call.ReleaseOwner o) = call.ReleaseOwner o

  abbrev pub relocate_reply : StepReply → StepReply
  relocate_reply (reply.Made b) = reply.Made (relocate_box b)
  relocate_reply (reply.MadeShared id b) = reply.MadeShared id (relocate_box b)
  relocate_reply (reply.Owner o) = reply.Owner o
  relocate_reply (reply.Reader t) = reply.Reader t
  relocate_reply (reply.Writer t) = reply.Writer t
  relocate_reply reply.Done = reply.Done
  relocate_reply (reply.Dropped l) = reply.Dropped (p l)
  relocate_reply (reply.Store e) = reply.Store e

  abbrev pub relocate_step : Step → Step
  relocate_step x = step_of x.worker (relocate_call x.call) (relocate_reply x.reply)

-- a location with its file's name as a text alone, and a step whose locations are so
abbrev pub lettered : Location → Location
lettered l = record l { file = record l.file { ref_ptr = (0, 0) } }

abbrev pub lettered_step : Step → Step
lettered_step = relocate_step lettered

-- a list is another one and another step, which is this one by the letters of its locations
pub record AppendsStep (before : List Step) (step : Step) (after : List Step) : Type 0 where
  pub last : Step
  pub is : after ≡ before ++ last ∷ []
  pub same : lettered_step last ≡ lettered_step step
