-- What the replies of a session promise, call by call.
use Rattle.std.specs.Prelude.{◌≡◌, ◌↔◌, ℕ, ◌≤◌, ◌+◌, Bool, true, false, List, [], ◌∷◌, None, Some}
use Rattle.std.specs.Prelude.{slice_get}
use Rattle.std.specs.FinSet as set
use Rattle.generational_errors.specs.declared.error.StoreError.TheVariants.{NumbersExhausted}
use Rattle.generational_errors.specs.declared.error.StoreError.TheVariants.{OutOfMemory}
use Rattle.generational_core.specs.declared.boxes.GenerationalPointer.{GenerationalPointer}
use Rattle.generational_sessions.specs.declared.calls.Call.{Call}
use Rattle.generational_sessions.specs.declared.calls.Call.TheVariants as call
use Rattle.generational_core.specs.State.{State, Ownership}
use Rattle.generational_core.specs.Conditions.{IsEnded, AreEnded}
use Rattle.generational_core.specs.Boxes.{name_of}
use Rattle.generational_core.specs.Borrowing.BorrowRefusal.{Dropped}
use Rattle.generational_core.specs.Machine.{Action, OwnerName, act, ownership}
use Rattle.generational_sessions.specs.Numbered.{refusal_in}
use Rattle.generational_sessions.specs.Session.{SessionState, SessionReply, Run, box_in, at_place}
use Rattle.generational_sessions.specs.Session.{ask}
use Rattle.generational_sessions.specs.Session.{add_place}
use Rattle.generational_sessions.specs.Session.Held.{Boxed, Owning, Nothing}
use Rattle.generational_sessions.specs.Session.Request.{Asks}
use Rattle.generational_sessions.specs.Session.SessionReply.{ABox, IsDone, Error, Lacking}
use Rattle.generational_sessions.specs.Session.SessionReply.{HandedBack}
use Rattle.generational_sessions.specs.Session.SessionReply.{Unready, NoSuch}
use Rattle.generational_core.specs.Slots.{slots, retired}
use Rattle.generational_sessions.specs.SoundSession.{IsSoundSession}
use Rattle.generational_core.specs.Steps.{may_lack, takes_ticket, last_ticket, no_names}

module _ {T : Type 0} where
  -- A call needs a living cell behind this box: it reads, writes or sets it, or makes a reference
  -- from it by no owner.
  abbrev pub NeedsBox : SessionState T → Call T → GenerationalPointer → Type 0
  NeedsBox s (call.LeakReference b) box = box_in s b ≡ Some box
  NeedsBox s (call.TryRead b l) box = box_in s b ≡ Some box
  NeedsBox s (call.TryWrite b l) box = box_in s b ≡ Some box
  NeedsBox s (call.Read b l) box = box_in s b ≡ Some box
  NeedsBox s (call.Write b l) box = box_in s b ≡ Some box
  NeedsBox s (call.Set b v) box = box_in s b ≡ Some box
  NeedsBox s _ box = ⊥

  -- The reply to such a call of a box whose name has ended: an error with the box's own location, and of
  -- a call with a condition that this doesn't hold.
  abbrev pub ended_reply : Call T → GenerationalPointer → SessionReply T
  ended_reply (call.Read a l) b = Unready None
  ended_reply (call.Write a l) b = Unready None
  ended_reply (call.Set a v) b = Unready (Some v)
  ended_reply _ b = Error (Dropped b.created_at)

  abbrev pub TellsEnds : SessionState T → Call T → SessionReply T → Type 0
  TellsEnds s c x = (b : GenerationalPointer)
      → NeedsBox s c b → IsEnded s.state (name_of b) → x ≡ ended_reply c b

  -- a box of this store, whose name was never issued before
  pub record IsFirstGiven (S : State T) (b : GenerationalPointer) : Type 0 where
    pub number : b.id.store ≡ S.number
    pub ungiven : set.contains S.given (name_of b) ≡ false

  -- a box in a reply is issued for the first time
  abbrev pub GivesNewBox : SessionState T → SessionReply T → Type 0
  GivesNewBox s x = (b : GenerationalPointer) → x ≡ ABox b → IsFirstGiven s.state b

  -- a call releases the last owner value of a record
  pub record ReleasesLast (s : SessionState T) (c : Call T) (h : Ownership) : Type 0 where
    pub place : ℕ
    pub owner : OwnerName
    pub releases : c ≡ call.ReleaseOwner place
    pub there : at_place s.table place ≡ Owning owner
    pub known : ownership s.state owner ≡ Some h
    pub last : h.count ≤ 1

  -- the last release of an owner with the reply `Done` ends the boxes of its list
  abbrev pub EndsOwned : SessionState T → Call T → SessionReply T → SessionState T → Type 0
  EndsOwned s c x r = (h : Ownership)
      → ReleasesLast s c h → x ≡ IsDone → AreEnded s.state h.names r.state

  -- a call needs something of the machine that may have to be allocated
  pub record MayLackMemory (s : SessionState T) (c : Call T) : Type 0 where
    pub action : Action T
    pub asks : ask s c ≡ Asks action
    pub lacks : may_lack s.state action ≡ true

  -- a reply says that memory ran out only if the call may have to allocate
  abbrev pub TellsLack : SessionState T → Call T → SessionReply T → Type 0
  TellsLack s c x = refusal_in x ≡ Some OutOfMemory → MayLackMemory s c

  -- a call needs a ticket of the machine, and they are used up
  pub record LacksTicket (s : SessionState T) (c : Call T) : Type 0 where
    pub action : Action T
    pub asks : ask s c ≡ Asks action
    pub takes : takes_ticket (act s.state action no_names).0 ≡ true
    pub last : s.state.next ≡ last_ticket

  -- a reply says that the numbers are used up exactly if a ticket is lacking
  abbrev pub TellsExhaustion : SessionState T → Call T → SessionReply T → Type 0
  TellsExhaustion s c x = (refusal_in x ≡ Some NumbersExhausted) ↔ LacksTicket s c

  -- whether a reply is an error
  abbrev pub tells_error : SessionReply T → Bool
  tells_error (Error t) = true
  tells_error (Lacking e) = true
  tells_error (HandedBack v e) = true
  tells_error (Unready back) = true
  tells_error (NoSuch back) = true
  tells_error _ = false

  -- a call that fails leaves all unchanged, and its place holds nothing
  abbrev pub RefusalLeavesAll : SessionState T → SessionReply T → SessionState T → Type 0
  RefusalLeavesAll s x r = tells_error x ≡ true → r ≡ add_place s Nothing

  -- what each call of a session promises
  pub record KeepsPromises (s : SessionState T) (c : Call T) (x : SessionReply T)
      (r : SessionState T) : Type 0 where
    pub tells_ends : TellsEnds s c x
    pub new_box : GivesNewBox s x
    pub ends_owned : EndsOwned s c x r
    pub tells_lack : TellsLack s c x
    pub tells_exhaustion : TellsExhaustion s c x
    pub refusal_leaves_all : RefusalLeavesAll s x r
    pub kept : IsSoundSession r
    pub bounded : slots r.state ≤ r.state.peak + retired r.state

  -- each call of a run keeps its promises
  abbrev pub AllKeepPromises : (s : SessionState T)
      (calls : List (Call T)) (replies : List (SessionReply T)) (r : SessionState T)
      → Run s calls replies r → Type 0
  AllKeepPromises s [] [] r run = Unit {0}
  AllKeepPromises s (c ∷ calls) (x ∷ replies) r run =
      KeepsPromises s c x run.0 × AllKeepPromises run.0 calls replies r run.2
  AllKeepPromises s _ _ r run = ⊥

  -- In a run, such a call of a box whose name had ended before the run has that reply.
  abbrev pub AllTellEnds : SessionState T → List (Call T) → List (SessionReply T) → Type 0
  AllTellEnds s calls replies = (i : ℕ) (c : Call T) (b : GenerationalPointer)
      → slice_get calls i ≡ Some c → NeedsBox s c b → IsEnded s.state (name_of b)
      → slice_get replies i ≡ Some (ended_reply c b)

  -- each place keeps its box
  abbrev pub KeepBoxes : SessionState T → SessionState T → Type 0
  KeepBoxes s r = (p : ℕ) (b : GenerationalPointer)
      → at_place s.table p ≡ Boxed b → at_place r.table p ≡ Boxed b

  -- no two of the replies have boxes with the same id
  abbrev pub GiveBoxesApart : List (SessionReply T) → Type 0
  GiveBoxesApart replies = (i j : ℕ) (b c : GenerationalPointer)
      → slice_get replies i ≡ Some (ABox b) → slice_get replies j ≡ Some (ABox c)
      → b.id ≡ c.id → i ≡ j
