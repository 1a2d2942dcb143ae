-- Rows of sessions: calls that refer to earlier ones by their places, with their replies.
use Rattle.std.specs.Prelude.{◌≡◌, List, [], ◌∷◌}
use Rattle.generational_errors.specs.declared.error.Location.{Location}
use Rattle.generational_core.specs.Conditions.{fresh}
use Rattle.generational_core.specs.Machine.{NewNames, act}
use Rattle.generational_core.specs.Names.{Name}
use Rattle.generational_core.specs.State.{State}
use Rattle.generational_core.specs.Steps.{Takes, limit_tickets, no_names}
use Rattle.generational_sessions.specs.declared.calls.Call.{Call}
use Rattle.generational_sessions.specs.Session.{Request, SessionReply, SessionState, add_place, ask}
use Rattle.generational_sessions.specs.Session.{settle, swap}
use Rattle.generational_sessions.specs.Session.Held.{Nothing}
use Rattle.generational_sessions.specs.Session.Request.{Asks, Tells, Swaps}
use Rattle.generational_sessions.specs.Session.SessionReply.{TheOld}
use Rattle.generational_sessions.specs.SoundSession.{IsSoundSession}

-- a call of a session and the names that it takes, with its reply
pub record Answered (T : Type 0) : Type 0 where
  pub call : Call T
  pub names : NewNames
  pub reply : SessionReply T

abbrev pub SessionRow : Type 0 → Type 0
SessionRow T = List (Answered T)

module _ {T : Type 0} where
  -- what a call with this request comes to, if it takes these names
  abbrev pub comes_to : SessionState T → Call T → NewNames → Request T
      → SessionReply T × SessionState T
  comes_to s c f (Asks a) = settle s c (limit_tickets s.state (act s.state a f))
  comes_to s c f (Tells x) = (x, add_place s Nothing)
  comes_to s c f (Swaps p g v old) = (TheOld old, add_place (swap s p g v) Nothing)

  -- the names are new and fit, if it issues them
  abbrev pub TakesNew : State T → NewNames → Request T → Type 0
  TakesNew S f (Asks a) = Takes S a (limit_tickets S (act S a f)).0 f
  TakesNew S f _ = Unit {0}

-- From a session, each call of a row has its reply. Each name that it issues is new and fits, and what
-- holds of sessions holds after it.
unfoldable pub Replies : {T : Type 0} → SessionState T → SessionRow T → Type 0
Replies s [] = Unit {0}
Replies {T} s (line ∷ row) =
    let asked = ask s line.call in
    let out : SessionReply T × SessionState T = comes_to s line.call line.names asked in
    (out.0 ≡ line.reply) × TakesNew s.state line.names asked × IsSoundSession out.1
    × Replies out.1 row

-- a row does so, of any values and locations, from a session over such a store
abbrev pub RepliesFrom : (T : Type 0)
    → ((u v w : T) (L M R W : Location) → SessionRow T) → Type 0
RepliesFrom T row = (u v w : T) (L M R W : Location)
    → Replies (record { state = fresh 7 1 0; table = [] }) (row u v w L M R W)

-- a call of a session with its reply, and with one name that it takes
infix 70 ◌answers◌
abbrev pub ◌answers◌ : {T : Type 0} → Call T → SessionReply T → Answered T
c answers x = record { call = c; names = no_names; reply = x }

infix 70 ◌gives◌answers◌
abbrev pub ◌gives◌answers◌ : {T : Type 0} → Call T → Name → SessionReply T → Answered T
c gives n answers x = record { call = c; names = record { first = n; second = n }; reply = x }
