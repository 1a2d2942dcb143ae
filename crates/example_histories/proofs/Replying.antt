-- Rows of sessions, computed from states that are written out.
use Rattle.example_histories.proofs
use proofs.Common.{act, Action, Answer, arith, Bool, Cell, cond, drop, false, fresh, Guard, inl}
use proofs.Common.{is_sorted, limit_tickets, List, Name, name_cmp, Names, nat_cmp, NewNames}
use proofs.Common.{Nothing, NumbersExhausted, Outcome, Ownership, refl, Refused, State, subst, sym}
use proofs.Common.{take, take-append-drop, true, ℕ, [], ◌++◌, ◌↔◌, ◌∷◌, ◌≡◌}
use proofs.Playing.{is_same, is_short, outcome, stage, taken, takes}
use Rattle.example_histories.specs.SessionRows.{comes_to, Replies, SessionRow, TakesNew}
use Rattle.generational_sessions.proofs.Numbering.Calls.{fresh_kept, session_kept}
use Rattle.generational_sessions.specs.Session.{ask, gives, Held, reply_of, Request, SessionReply}
use Rattle.generational_sessions.specs.Session.{SessionState, settle, Settles, spend}
use Rattle.generational_sessions.specs.Session.Request.{Asks, Swaps, Tells}
use Rattle.generational_sessions.specs.{declared.calls.Call.Call, SoundSession.IsSoundSession}
use Rattle.generational_sessions.specs.{Session.SessionReply.TheOld, Session.Held.Writing}
use Rattle.std.specs.Prelude.{slice_set}
use Rattle.std.specs.FinSet as set

module _ {T : Type 0} where
  -- whether the names are new and fit, if they are issued
  abbrev takes_new : State T → NewNames → Request T → Bool
  takes_new S f (Asks a) = takes S a (limit_tickets S (act S a f)).0 f
  takes_new S f _ = true

  -- a call of a row is a step of its session
  steps : (s : SessionState T) (c : Call T) (f : NewNames) (r : Request T) → TakesNew s.state f r
      → Settles s c r (comes_to s c f r).0 (comes_to s c f r).1
  steps s c f (Asks a) new = let out = limit_tickets s.state (act s.state a f) in
      (out.0, out.1, inl (f, new, refl), refl)
  steps s c f (Tells x) new = (refl, refl)
  steps s c f (Swaps p g v old) new = (refl, refl)

  all_new : (S : State T) (f : NewNames) (r : Request T) → takes_new S f r ≡ true → TakesNew S f r
  all_new S f r h = grind (arith, taken)

-- a row that is computed: names are tested, and what holds of sessions follows
unfoldable pub Plays : {T : Type 0} → SessionState T → SessionRow T → Type 0
Plays s [] = Unit {0}
Plays {T} s (line ∷ row) =
    let asked = ask s line.call in
    let out : SessionReply T × SessionState T = comes_to s line.call line.names asked in
    (out.0 ≡ line.reply) × (takes_new s.state line.names asked ≡ true) × Plays out.1 row

replies : {T : Type 0} (s : SessionState T) (row : SessionRow T)
    → IsSoundSession s → Plays s row → Replies s row
unfolding Replies Plays
replies s [] kept h = tt
replies {T} s (line ∷ row) kept h =
    let asked = ask s line.call in
    let out : SessionReply T × SessionState T = comes_to s line.call line.names asked in
    let new = all_new s.state line.names asked h.1 in
    let after = session_kept s out.1 line.call out.0 kept (steps s line.call line.names asked new) in
    (h.0, new, after, replies out.1 row after h.2)

pub plays_reply : {T : Type 0} (row : SessionRow T)
    → Plays (record { state = fresh 7 1 0; table = [] }) row
    → Replies (record { state = fresh 7 1 0; table = [] }) row
plays_reply row h = replies _ row (fresh_kept 7 1 0) h

module _ {T : Type 0} where
  abbrev limited : State T → Outcome T → Outcome T
  limited S out = cond (is_short out.0 S.next) (Refused NumbersExhausted, S) out

  -- what a row replies after an outcome
  abbrev settled : State T → List (Held T) → Call T → Action T → NewNames
      → SessionReply T → SessionRow T → Outcome T → Type 0
  settled S table c a f x row o =
      let s : SessionState T = record { state = S; table = table } in
      let out : SessionReply T × SessionState T = settle s c o in
      (out.0 ≡ x) × (takes S a o.0 f ≡ true) × Plays out.1 row

  pub hears : State T → List (Held T) → Call T → Action T → NewNames
      → SessionReply T → SessionRow T → Outcome T → Type 0
  hears S table c a f x row out = settled S table c a f x row (limited S out)

  module _ (b : ℕ) (c : List (Name × Cell T)) (g : Names) (o : List (ℕ × Ownership)) (n p : ℕ) where
    abbrev S : State T
    S = stage b c g o n p

    -- the places after a call with a reply
    pub hears_on : (R : State T) (before : List (Held T)) (call : Call T) (a : Action T)
        (f : NewNames) (x : SessionReply T) (row : SessionRow T) (answer : Answer T)
        → is_short answer R.next ≡ false → takes R a answer f ≡ true → reply_of call answer ≡ x
        → hears R before call a f x row (answer, S)
        ↔ Plays (record { state = S; table = spend call answer before ++ gives answer ∷ [] }) row
    unfolding hears
    hears_on R before call a f x row answer h new is =
        subst (λ k. settled R before call a f x row (cond k (Refused NumbersExhausted, R) (answer, S))
        ↔ Plays (record { state = S; table = spend call answer before ++ gives answer ∷ [] }) row)
        (sym h) (λ h. h.2, λ q. (is, new, q))

    module _ (table : List (Held T)) where
      abbrev here : SessionState T
      here = record { state = S; table = table }

      -- what a row replies from what a call requests there
      pub comes : Call T → NewNames → SessionReply T → SessionRow T → Request T → Type 0
      comes call f x row asked =
          let out : SessionReply T × SessionState T = comes_to here call f asked in
          (out.0 ≡ x) × (takes_new S f asked ≡ true) × Plays out.1 row

      -- ---- the rules by which a row is computed

      pub ends : Plays here [] ↔ Unit {0}
      unfolding Plays
      ends = is_same

      pub calls : (call : Call T) (f : NewNames) (x : SessionReply T) (row : SessionRow T)
          → Plays here (record { call = call; names = f; reply = x } ∷ row)
          ↔ comes call f x row (ask here call)
      unfolding comes Plays
      calls call f x row = is_same

      pub acts : (hc : is_sorted name_cmp c ≡ true) (ho : is_sorted nat_cmp o ≡ true) (call : Call T)
          (f : NewNames) (x : SessionReply T) (row : SessionRow T) (a : Action T)
          → comes call f x row (Asks a) ↔ hears S table call a f x row (outcome b c g o n p hc ho a f).0
      unfolding comes hears
      acts hc ho call f x row a = subst (λ y. settled S table call a f x row (limited S (act S a f))
          ↔ settled S table call a f x row (limited S y)) (outcome b c g o n p hc ho a f).1 is_same

      -- a reply at once, and another value for a writer
      pub tells_on : (call : Call T) (f : NewNames) (x : SessionReply T) (row : SessionRow T)
          → comes call f x row (Tells x)
          ↔ Plays (record { state = S; table = table ++ Nothing ∷ [] }) row
      unfolding comes
      tells_on call f x row = (λ h. h.2, λ q. (refl, refl, q))

      pub swaps_on : (call : Call T) (f : NewNames) (p : ℕ) (g : Guard) (v old : T)
          (row : SessionRow T) → comes call f (TheOld old) row (Swaps p g v old)
          ↔ Plays (record { state = S; table = slice_set table p (Writing g v) ++ Nothing ∷ [] }) row
      unfolding comes
      swaps_on call f p g v old row = (λ h. h.2, λ q. (refl, refl, q))

  -- a row replies so if its first calls lead here, and the others reply so from here
  module _ (c : List (Name × Cell T)) (g : List Name) (o : List (ℕ × Ownership)) (n p : ℕ)
      (table : List (Held T)) where
    abbrev at_last : SessionState T
    at_last = record { state = stage 1 c (set.from_list g) o n p; table = table }

    pub cut : (s : SessionState T) (row : SessionRow T) (k : ℕ)
        → ((rest : SessionRow T) → Plays at_last rest → Plays s (take k row ++ rest))
        → Plays at_last (drop k row) → Plays s row
    cut s row k f rest = subst (Plays s) (take-append-drop k row) (f (drop k row) rest)

pub ruleset replying = (ends, calls, acts, hears_on, tells_on, swaps_on)
