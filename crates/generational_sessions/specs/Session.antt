-- A session: calls that refer to earlier boxes, guards and owners by their places.
use Rattle.std.specs.Prelude.{◌≡◌, ℕ, Bool, true, false, if◌then◌else◌, nat_eq, List, [], ◌∷◌, ◌++◌}
use Rattle.std.specs.Prelude.{Option, None, Some, slice_set}
use Rattle.std.specs.List.{slice_index_or}
use Rattle.generational_errors.specs.declared.error.Location.{Location}
use Rattle.generational_errors.specs.declared.error.StoreError.{StoreError}
use Rattle.generational_core.specs.declared.boxes.GenerationalPointer.{GenerationalPointer}
use Rattle.generational_core.specs.declared.boxes.GenerationalBoxId.{GenerationalBoxId}
use Rattle.generational_sessions.specs.declared.calls.BoxAt.{BoxAt}
use Rattle.generational_sessions.specs.declared.calls.BoxAt.TheVariants.{Place, Foreign}
use Rattle.generational_sessions.specs.declared.calls.Call.{Call}
use Rattle.generational_sessions.specs.declared.calls.Call.TheVariants as call
use Rattle.generational_core.specs.Answers.{pointer_of, value_behind}
use Rattle.generational_core.specs.Boxes.{has_same_id}
use Rattle.generational_core.specs.State.{State}
use Rattle.generational_core.specs.Borrowing.{BorrowRefusal, Guard, can_read, can_write}
use Rattle.generational_core.specs.Machine.{Action, Answer, OwnerName, Outcome, act}
use Rattle.generational_core.specs.Machine.Action.{Make, MakeShared, Refer, NewOwner, CloneOwner}
use Rattle.generational_core.specs.Machine.Action.{ReleaseOwner, LeakOwner, Read, Write}
use Rattle.generational_core.specs.Machine.Action.{ReleaseReader, ReleaseWriter, SetValue, End}
use Rattle.generational_core.specs.Machine.Action.{Point, CanRead, CanWrite}
use Rattle.generational_core.specs.Machine.Answer.{Made, Owned, Reads, Writes, Done, Flag, BorrowRefused}
use Rattle.generational_core.specs.Machine.Answer.{Refused}
use Rattle.generational_core.specs.Steps.{Meets, no_names}

-- What a place holds.
pub data Held (T : Type 0) : Type 0 where
  Boxed : (box : GenerationalPointer) → Held T
  Reading : (guard : Guard) → Held T
  Writing : (guard : Guard) (value : T) → Held T
  Owning : (owner : OwnerName) → Held T
  Nothing : Held T

-- A store's state, and what each place holds.
pub record SessionState (T : Type 0) : Type 0 where
  pub state : State T
  pub table : List (Held T)

-- A reply.
pub data SessionReply (T : Type 0) : Type 0 where
  ABox : (box : GenerationalPointer) → SessionReply T
  AnOwner : SessionReply T
  AReader : SessionReply T
  AWriter : SessionReply T
  IsDone : SessionReply T
  TheOld : (value : T) → SessionReply T
  Yes : (flag : Bool) → SessionReply T
  TheId : (id : GenerationalBoxId) → SessionReply T
  TheSlot : (slot : ℕ) → SessionReply T
  Created : (location : Location) → SessionReply T
  Error : (refusal : BorrowRefusal) → SessionReply T
  Lacking : (cause : StoreError) → SessionReply T
  HandedBack : (value : T) (cause : StoreError) → SessionReply T
  Unready : (back : Option T) → SessionReply T
  NoSuch : (back : Option T) → SessionReply T

-- What a call comes to once its places are read: a call of the machine, a reply at once, or
-- another value for the writer at a place.
pub data Request (T : Type 0) : Type 0 where
  Asks : (action : Action T) → Request T
  Tells : (reply : SessionReply T) → Request T
  Swaps : (place : ℕ) (guard : Guard) (value old : T) → Request T

module _ {T : Type 0} where
  -- what a place holds; a place that isn't issued yet holds nothing
  abbrev pub at_place : List (Held T) → ℕ → Held T
  at_place table place = slice_index_or table place Nothing

  abbrev pub box_held : Held T → Option GenerationalPointer
  box_held (Boxed b) = Some b
  box_held _ = None

  abbrev pub owner_held : Held T → Option OwnerName
  owner_held (Owning o) = Some o
  owner_held _ = None

  -- the box that a call refers to; a foreign one must be of another store
  abbrev pub box_in : SessionState T → BoxAt T → Option GenerationalPointer
  box_in s (Place p) = box_held (at_place s.table p)
  box_in s (Foreign b) =
      if nat_eq (pointer_of b).id.store s.state.number then None else Some (pointer_of b)

  abbrev pub with_box : Option GenerationalPointer → Option T
      → (GenerationalPointer → Request T) → Request T
  with_box None back next = Tells (NoSuch back)
  with_box (Some b) back next = next b

  abbrev pub with_owner : Option OwnerName → Option T → (OwnerName → Request T) → Request T
  with_owner None back next = Tells (NoSuch back)
  with_owner (Some o) back next = next o

  -- a question about a box that looks at no store
  abbrev pub tell : Option GenerationalPointer → (GenerationalPointer → SessionReply T) → Request T
  tell b say = with_box b None (λ b. Tells (say b))

  abbrev pub release : Held T → Request T
  release (Reading g) = Asks (ReleaseReader g)
  release (Writing g v) = Asks (ReleaseWriter g v)
  release _ = Tells (NoSuch None)

  abbrev pub replace : ℕ → Held T → T → Request T
  replace p (Writing g old) v = Swaps p g v old
  replace p _ v = Tells (NoSuch (Some v))

  -- a call with a condition, with its own reply if that doesn't hold
  abbrev pub if_ready : Bool → Option T → Request T → Request T
  if_ready true back next = next
  if_ready false back next = Tells (Unready back)

  -- the owner that a call refers to
  abbrev pub owner_in : SessionState T → ℕ → Option OwnerName
  owner_in s p = owner_held (at_place s.table p)

  -- what each call comes to: of the machine, or at once
  abbrev pub ask : SessionState T → Call T → Request T
  ask s (call.Leak v l) = Asks (Make None v l)
  ask s (call.LeakRc v l) = Asks (MakeShared None v l)
  ask s (call.LeakReference b) = with_box (box_in s b) None (λ b. Asks (Refer None b))
  ask s (call.Insert p v l) =
      with_owner (owner_in s p) (Some v) (λ o. Asks (Make (Some o) v l))
  ask s (call.InsertRc p v l) =
      with_owner (owner_in s p) (Some v) (λ o. Asks (MakeShared (Some o) v l))
  ask s (call.InsertReference p b) = with_owner (owner_in s p) None
      (λ o. with_box (box_in s b) None (λ b. Asks (Refer (Some o) b)))
  ask s call.Owner = Asks NewOwner
  ask s (call.CloneOwner p) = with_owner (owner_in s p) None (λ o. Asks (CloneOwner o))
  ask s (call.ReleaseOwner p) = with_owner (owner_in s p) None (λ o. Asks (ReleaseOwner o))
  ask s (call.LeakOwner p) = with_owner (owner_in s p) None (λ o. Asks (LeakOwner o))
  ask s (call.TryRead b l) = with_box (box_in s b) None (λ b. Asks (Read b l))
  ask s (call.TryWrite b l) = with_box (box_in s b) None (λ b. Asks (Write b l))
  ask s (call.Read b l) = with_box (box_in s b) None
      (λ b. if_ready (can_read s.state b) None (Asks (Read b l)))
  ask s (call.Write b l) = with_box (box_in s b) None
      (λ b. if_ready (can_write s.state b) None (Asks (Write b l)))
  ask s (call.Set b v) = with_box (box_in s b) (Some v)
      (λ b. if_ready (can_write s.state b) (Some v) (Asks (SetValue b v)))
  ask s (call.CanRead b) = with_box (box_in s b) None (λ b. Asks (CanRead b))
  ask s (call.CanWrite b) = with_box (box_in s b) None (λ b. Asks (CanWrite b))
  ask s (call.Replace p v) = replace p (at_place s.table p) v
  ask s (call.Release p) = release (at_place s.table p)
  ask s (call.ManuallyDrop b) = with_box (box_in s b) None (λ b. Asks (End b))
  ask s (call.PointTo a b) =
      with_box (box_in s a) None (λ a. with_box (box_in s b) None (λ b. Asks (Point a b)))
  ask s (call.PtrEq a b) =
      with_box (box_in s a) None (λ a. tell (box_in s b) (λ b. Yes (has_same_id a b)))
  ask s (call.Id b) = tell (box_in s b) (λ b. TheId b.id)
  ask s (call.RawPtr b) = tell (box_in s b) (λ b. TheSlot b.id.slot)
  ask s (call.CreatedAt b) = tell (box_in s b) (λ b. Created b.created_at)

  -- an error of the store, with the value if one was passed in
  abbrev pub refusal : Call T → StoreError → SessionReply T
  refusal (call.Leak v l) e = HandedBack v e
  refusal (call.LeakRc v l) e = HandedBack v e
  refusal (call.Insert p v l) e = HandedBack v e
  refusal (call.InsertRc p v l) e = HandedBack v e
  refusal _ e = Lacking e

  abbrev pub is_release : Call T → Bool
  is_release (call.Release p) = true
  is_release _ = false

  -- the reply to a call that the machine answered
  abbrev pub reply_of : Call T → Answer T → SessionReply T
  reply_of c (Made b) = ABox b
  reply_of c (Owned o) = AnOwner
  reply_of c (Reads g) = AReader
  reply_of c (Writes g v) = AWriter
  reply_of c (Flag b) = if is_release c then IsDone else Yes b
  reply_of c (BorrowRefused t) = Error t
  reply_of c (Refused e) = refusal c e
  reply_of c _ = IsDone

  -- what a call gives to its own place
  abbrev pub gives : Answer T → Held T
  gives (Made b) = Boxed b
  gives (Owned o) = Owning o
  gives (Reads g) = Reading g
  gives (Writes g v) = Writing g v
  gives _ = Nothing

  -- A guard or an owner that is consumed leaves nothing at its place. An owner whose release failed stays
  -- there.
  abbrev pub spend : Call T → Answer T → List (Held T) → List (Held T)
  spend (call.Release p) a table = slice_set table p Nothing
  spend (call.ReleaseOwner p) Done table = slice_set table p Nothing
  spend (call.LeakOwner p) a table = slice_set table p Nothing
  spend _ a table = table

  -- the session with another place
  abbrev pub add_place : SessionState T → Held T → SessionState T
  add_place s h = record s { table = s.table ++ h ∷ [] }

  -- the session in which the writer at a place owns another value
  abbrev pub swap : SessionState T → ℕ → Guard → T → SessionState T
  swap s p g v = record s { table = slice_set s.table p (Writing g v) }

  -- the reply to a call, and the session after it
  abbrev pub settle : SessionState T → Call T → Outcome T → SessionReply T × SessionState T
  settle s c out =
      let after : SessionState T = record { state = out.1; table = spend c out.0 s.table } in
      (reply_of c out.0, add_place after (gives out.0))

  -- a call that comes to this request has the reply x and leads from s to r
  abbrev pub Settles : SessionState T → Call T → Request T
      → SessionReply T → SessionState T → Type 0
  Settles s c (Asks action) x r =
      (answer : Answer T)
      × (R : State T)
      × Meets s.state action answer R
      × ((x, r) ≡ settle s c (answer, R))
  Settles s c (Tells y) x r = (x ≡ y) × (r ≡ add_place s Nothing)
  Settles s c (Swaps p g v old) x r = (x ≡ TheOld old) × (r ≡ add_place (swap s p g v) Nothing)

  -- a call of a session with the reply x leads from s to r
  abbrev pub SessionStep : SessionState T → Call T → SessionReply T → SessionState T → Type 0
  SessionStep s c x r = Settles s c (ask s c) x r

  -- these calls with these replies lead from s to r
  abbrev pub Run : SessionState T → List (Call T) → List (SessionReply T) → SessionState T → Type 0
  Run s [] [] r = r ≡ s
  Run s (c ∷ calls) (x ∷ replies) r =
      (next : SessionState T) × SessionStep s c x next × Run next calls replies r
  Run s _ _ r = ⊥

  -- the value of the guard that a place holds, if it holds one
  abbrev pub loan_of : State T → Held T → Option T
  loan_of S (Reading g) = value_behind S g
  loan_of S (Writing g v) = Some v
  loan_of S _ = None

  -- the value of the guard at a place
  abbrev pub loan_at : SessionState T → ℕ → Option T
  loan_at s p = loan_of s.state (at_place s.table p)

  -- the state after a held guard was released; an owner is leaked
  abbrev pub release_held : State T → Held T → State T
  release_held S (Reading g) = (act S (ReleaseReader g) no_names).1
  release_held S (Writing g v) = (act S (ReleaseWriter g v) no_names).1
  release_held S _ = S

  -- the state after all guards of a table were released, in order of place
  abbrev pub release_all : State T → List (Held T) → State T
  release_all S [] = S
  release_all S (h ∷ table) = release_all (release_held S h) table
