-- What a session's places and replies are in the machine.
use Rattle.std.specs.Prelude.{◌≡◌, List, Some, Result, Ok, Err, map as list_map}
use Rattle.generational_core.specs.declared.boxes.GenerationalBox.{GenerationalBox}
use Rattle.generational_sessions.specs.declared.places.Thing.{Thing}
use Rattle.generational_sessions.specs.declared.places.Thing.TheVariants as thing
use Rattle.generational_sessions.specs.declared.calls.Reply.{Reply}
use Rattle.generational_sessions.specs.declared.calls.Reply.TheVariants as reply
use Rattle.generational_errors.specs.declared.error.BorrowError.{BorrowError}
use Rattle.generational_errors.specs.declared.error.BorrowMutError.{BorrowMutError}
use Rattle.generational_errors.specs.declared.error.Refusal.{Refusal}
use Rattle.generational_errors.specs.declared.error.Refused.{Refused}
use Rattle.generational_errors.specs.declared.error.Refused.TheVariants as refused
use Rattle.generational_core.specs.Answers.{pointer_of, refusal_of_read_error, refusal_of_error}
use Rattle.generational_sessions.specs.declared.calls.Call.{Call}
use Rattle.generational_core.specs.State.{State}
use Rattle.generational_core.specs.Machine.{Answer}
use Rattle.generational_core.specs.Steps.{Meets}
use Rattle.generational_sessions.specs.Session.{Held, SessionReply, SessionState, Request, ask}
use Rattle.generational_sessions.specs.Session.{gives}
use Rattle.generational_sessions.specs.Session.{reply_of, spend, swap}
use Rattle.generational_sessions.specs.Session.Request.{Asks, Tells, Swaps}
use Rattle.generational_sessions.specs.Session.Held.{Boxed, Reading, Writing, Owning, Nothing}
use Rattle.generational_sessions.specs.Session.SessionReply.{ABox, AnOwner, AReader, AWriter}
use Rattle.generational_sessions.specs.Session.SessionReply.{IsDone}
use Rattle.generational_sessions.specs.Session.SessionReply.{TheOld, Yes, TheId, TheSlot, Created}
use Rattle.generational_sessions.specs.Session.SessionReply.{Error, Lacking, HandedBack, Unready}
use Rattle.generational_sessions.specs.Session.SessionReply.{NoSuch}

module _ {T : Type 0} where
  -- what a place holds
  abbrev pub as_held : Thing T → Held T
  as_held (thing.Box b) = Boxed (pointer_of b)
  as_held (thing.Reader g) = Reading g
  as_held (thing.Writer g) = Writing g.guard g.value
  as_held (thing.Owner o) = Owning o
  as_held thing.Nothing = Nothing

  -- what a reply says
  abbrev pub as_reply : Reply T → SessionReply T
  as_reply (reply.Box b) = ABox (pointer_of b)
  as_reply reply.Owner = AnOwner
  as_reply reply.Reader = AReader
  as_reply reply.Writer = AWriter
  as_reply reply.Done = IsDone
  as_reply (reply.Old v) = TheOld v
  as_reply (reply.Flag b) = Yes b
  as_reply (reply.Id id) = TheId id
  as_reply (reply.Slot n) = TheSlot n
  as_reply (reply.Created l) = Created l
  as_reply (reply.Error e) = Error (refusal_of_error e)
  as_reply (reply.Store e) = Lacking e
  as_reply (reply.Back v e) = HandedBack v e
  as_reply (reply.Unready back) = Unready back
  as_reply (reply.NoSuch back) = NoSuch back

  abbrev pub as_replies : List (Reply T) → List (SessionReply T)
  as_replies replies = list_map as_reply replies

  -- what the reply to an error says, if no value was passed in
  abbrev pub as_refusal : Refused BorrowMutError → SessionReply T
  as_refusal (refused.Borrow e) = Error (refusal_of_error e)
  as_refusal (refused.Store e) = Lacking e

  -- the same of a failed read, and of a failed making of a reference
  abbrev pub as_read_refusal : Refused BorrowError → SessionReply T
  as_read_refusal (refused.Borrow e) = Error (refusal_of_read_error e)
  as_read_refusal (refused.Store e) = Lacking e

  -- the reply to a making of a value, and what its place gets
  abbrev pub as_making : Result (GenerationalBox T) (Refusal T) → SessionReply T × Held T
  as_making (Ok b) = (ABox (pointer_of b), Boxed (pointer_of b))
  as_making (Err r) = (HandedBack r.value r.cause, Nothing)

  -- the session of a store's state and its places
  abbrev pub as_session : State T → List (Thing T) → SessionState T
  as_session S things = record { state = S; table = list_map as_held things }

  -- the reply when a writer's value is replaced, and what its place holds then
  abbrev pub exchange : Held T → T → SessionReply T × Held T
  exchange (Writing g old) v = (TheOld old, Writing g v)
  exchange h v = (NoSuch (Some v), h)

  abbrev pub GivesAsked : SessionState T → Call T → Request T
      → SessionReply T → Held T → SessionState T → Type 0
  GivesAsked s c (Asks action) x h m =
      (answer : Answer T)
      × Meets s.state action answer m.state
      × (x ≡ reply_of c answer)
      × (h ≡ gives answer)
      × (m.table ≡ spend c answer s.table)
  GivesAsked s c (Tells y) x h m = (x ≡ y) × (h ≡ Nothing) × (m ≡ s)
  GivesAsked s c (Swaps p g v old) x h m = (x ≡ TheOld old) × (h ≡ Nothing) × (m ≡ swap s p g v)

  -- a call of a session has the reply x and gives h, before h has its place
  abbrev pub Gives : SessionState T → Call T → SessionReply T → Held T → SessionState T → Type 0
  Gives s c x h m = GivesAsked s c (ask s c) x h m
