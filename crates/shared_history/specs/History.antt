-- Histories of steps, and what they make of a state without values.
use Rattle.std.specs.Prelude.{◌≡◌, ℕ, ◌+◌, Bool, true, not, ◌&&◌, ◌||◌, nat_eq, if◌then◌else◌, List}
use Rattle.std.specs.Prelude.{[], ◌∷◌, Option, Some, None, option_map}
use Rattle.std.specs.FinMap as map
use Rattle.std.specs.FinSet as set
use Rattle.generational_core.specs.declared.steps.StepCall.{StepCall}
use Rattle.generational_core.specs.declared.steps.StepCall.TheVariants as call
use Rattle.generational_core.specs.Names.{Name}
use Rattle.generational_core.specs.Boxes.{name_in, name_of}
use Rattle.generational_core.specs.Cells.Content.{Here}
use Rattle.generational_core.specs.Cells.Cell.{Shared}
pub use Rattle.generational_core.specs.Plain.{Plain}
use Rattle.generational_core.specs.State.{content_at}
use Rattle.generational_core.specs.Conditions.{fresh}
use Rattle.generational_core.specs.Borrowing.{Guard}
use Rattle.generational_core.specs.Machine.{Action, Answer, NewNames, Outcome, act, add_cell}
use Rattle.generational_core.specs.Machine.{has_reader, has_writer}
use Rattle.generational_core.specs.Machine.Action.{Make, MakeShared, Refer, NewOwner, CloneOwner}
use Rattle.generational_core.specs.Machine.Action.{ReleaseOwner, Read, Write, ReleaseReader}
use Rattle.generational_core.specs.Machine.Action.{ReleaseWriter, SetValue, End, Point}
use Rattle.generational_core.specs.Slots.{slots_of, slots, free, is_free, last_name}
use Rattle.generational_core.specs.Steps.{AreNew, Meets, limit_tickets, no_names}
use Rattle.generational_core.specs.StepCalls.{is_ready, owner_of}
use Rattle.shared_records.specs.declared.step.Step.{Step}
use Rattle.shared_records.specs.declared.step.StepReply.{StepReply}
use Rattle.shared_records.specs.declared.step.StepReply.TheVariants as reply
use Rattle.shared_history.specs.Replies.{recorded_reply, is_recorded}

-- where a history starts: a store of this number in which nothing was made
abbrev pub start : ℕ → Plain
start number = fresh number 1 0

-- whether a name fits the slots: a new slot at its first generation if none is free, else a free
-- slot's next one
abbrev pub fits : Plain → Name → Bool
fits P n =
    (nat_eq (free P) 0 && (nat_eq n.slot (slots P) && nat_eq n.generation P.start))
    || (map.contains_key (slots_of P) n.slot
    && (is_free P n.slot && nat_eq n.generation ((last_name P n.slot).generation + 1)))

-- whether a name was never issued, and fits
abbrev pub is_new : Plain → Name → Bool
is_new P n = not (set.contains P.given n) && fits P n

-- the names in a recorded reply
abbrev pub names_of_reply : StepReply → NewNames
names_of_reply (reply.Made b) = record { first = name_of b; second = name_of b }
names_of_reply (reply.MadeShared id b) = record { first = name_in id; second = name_of b }
names_of_reply _ = no_names

-- whether the names that a making takes are new; that of a shared value's reference is new next to its
-- cell's
abbrev pub are_new : Plain → Action (Unit {0}) → NewNames → Bool
are_new P (Make o v l) f = is_new P f.first
are_new P (MakeShared o v l) f =
    is_new P f.first && is_new (add_cell P f.first (Shared (Here v []) l)) f.second
are_new P (Refer o b) f = is_new P f.first
are_new P _ f = true

-- whether the names that a call's recorded reply gives are
abbrev pub gives_new : Plain → Action (Unit {0}) → StepReply → Bool
gives_new P a (reply.Made b) = are_new P a (names_of_reply (reply.Made b))
gives_new P a (reply.MadeShared id b) = are_new P a (names_of_reply (reply.MadeShared id b))
gives_new P a _ = true

-- the first of these names that passes
abbrev pub first_name : (Name → Bool) → List Name → Option Name
first_name test [] = None
first_name test (n ∷ names) = if test n then Some n else first_name test names

-- the cell at which a ticket is a reader's, and the writer's
abbrev pub reader_cell : Plain → ℕ → Option Name
reader_cell P t = first_name (λ n. has_reader (content_at P n) t) (map.keys P.cells)

abbrev pub writer_cell : Plain → ℕ → Option Name
writer_cell P t = first_name (λ n. has_writer (content_at P n) t) (map.keys P.cells)

-- the guard of a borrow with this ticket at a cell
abbrev pub guard_at : Plain → ℕ → Name → Guard
guard_at P t n = record { store = P.number; cell = n; ticket = t }

-- the machine's call of a recorded call; a release identifies its guard by the ticket alone
abbrev pub action_of : Plain → StepCall → Option (Action (Unit {0}))
action_of P (call.Leak l) = Some (Make None tt l)
action_of P (call.LeakRc l) = Some (MakeShared None tt l)
action_of P (call.LeakReference b) = Some (Refer None b)
action_of P call.Owner = Some NewOwner
action_of P (call.CloneOwner o) = Some (CloneOwner (owner_of o))
action_of P (call.Insert o l) = Some (Make (Some (owner_of o)) tt l)
action_of P (call.InsertRc o l) = Some (MakeShared (Some (owner_of o)) tt l)
action_of P (call.InsertReference o b) = Some (Refer (Some (owner_of o)) b)
action_of P (call.Read b l) = Some (Read b l)
action_of P (call.Write b l) = Some (Write b l)
action_of P (call.Set b) = Some (SetValue b tt)
action_of P (call.ManuallyDrop b) = Some (End b)
action_of P (call.PointTo a b) = Some (Point a b)
action_of P (call.ReleaseRead t) =
    option_map (λ n. ReleaseReader (guard_at P t n)) (reader_cell P t)
action_of P (call.ReleaseWrite t) =
    option_map (λ n. ReleaseWriter (guard_at P t n) tt) (writer_cell P t)
action_of P (call.ReleaseOwner o) = Some (ReleaseOwner (owner_of o))

-- whether a call with this answer of the machine was lawfully recorded with this reply: no borrow was in
-- its way, a name that it issued was new, and the reply is the machine's
abbrev pub is_lawful : Plain → StepCall → Action (Unit {0}) → StepReply → Option StepReply → Bool
is_lawful P c a r given = is_ready P c && (gives_new P a r && is_recorded given r)

-- the state after a lawful step, or none
abbrev pub step_by : Plain → StepCall → StepReply → Option (Action (Unit {0})) → Option Plain
step_by P c r None = None
step_by P c r (Some a) =
    let out : Outcome (Unit {0}) = limit_tickets P (act P a (names_of_reply r)) in
    if is_lawful P c a r (recorded_reply out.1 a out.0) then Some out.1 else None

-- what a recorded step makes of a state without values; none if it isn't lawful
unfoldable pub plain_step : Plain → StepCall → StepReply → Option Plain
plain_step P c r = step_by P c r (action_of P c)

-- what all the steps make of a state, if there is one
abbrev pub replay_on : List Step → Option Plain → Option Plain
replay_on [] P = P
replay_on (x ∷ xs) None = None
replay_on (x ∷ xs) (Some P) = replay_on xs (plain_step P x.call x.reply)

-- what a history makes of the state from which it starts; none if a step isn't lawful
abbrev pub replay_from : Plain → List Step → Option Plain
replay_from P steps = replay_on steps (Some P)

-- the names that a call's recorded reply gives were never issued before, and fit
abbrev pub GivesNew : Plain → Action (Unit {0}) → StepReply → Type 0
GivesNew P a (reply.Made b) = AreNew P a (names_of_reply (reply.Made b))
GivesNew P a (reply.MadeShared id b) = AreNew P a (names_of_reply (reply.MadeShared id b))
GivesNew P a _ = Unit {0}

-- A recorded step as the machine takes it, from one state to another.
pub record IsTaken (P : Plain) (c : StepCall) (r : StepReply) (Q : Plain) : Type 0 where
  -- the machine's call
  pub action : Action (Unit {0})
  pub asked : action_of P c ≡ Some action
  -- no borrow was in its way
  pub ready : is_ready P c ≡ true
  -- the machine has this answer, and goes on to the other state
  pub answer : Answer (Unit {0})
  pub met : Meets P action answer Q
  -- the recorded reply is this answer
  pub replied : is_recorded (recorded_reply Q action answer) r ≡ true
  -- and names that it issues were new
  pub named : GivesNew P action r

-- a history led over a recorded step: to a state before it, by it to another, and on from there
abbrev pub LeadsOver : Plain → List Step → Step → List Step → Plain → Type 0
LeadsOver P before x after R =
    (S : Plain) × (Q : Plain) × (replay_from P before ≡ Some S) × IsTaken S x.call x.reply Q
    × (replay_from Q after ≡ Some R)
