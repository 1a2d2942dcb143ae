-- The numbered machine: the k-th name issued is the number k, tickets count without end, and there are no
-- slots. Its replies depend on the calls, and on the errors that they met.
use Rattle.std.specs.Prelude.{◌≡◌, ◌+◌, true, List, [], Option, None, Some, length, map as list_map}
use Rattle.std.specs.Prelude.{ℕ, ◌<◌, ◌∷◌}
use Rattle.std.specs.List.{slice_index_or, AllByRecursion}
use Rattle.std.specs.FinSet as set
use Rattle.generational_errors.specs.declared.error.StoreError.{StoreError}
use Rattle.generational_core.specs.declared.boxes.GenerationalBoxId.{GenerationalBoxId}
use Rattle.generational_sessions.specs.declared.calls.Call.{Call}
use Rattle.generational_core.specs.Names.{Name, Names, among}
use Rattle.generational_core.specs.Boxes.{id_of}
use Rattle.generational_core.specs.Conditions.{fresh}
use Rattle.generational_core.specs.Machine.{NewNames, act}
use Rattle.generational_core.specs.Steps.{want}
use Rattle.generational_sessions.specs.Session.{SessionState, SessionReply, Request, add_place}
use Rattle.generational_sessions.specs.Session.{refusal}
use Rattle.generational_sessions.specs.Session.{Held, ask, settle, swap}
use Rattle.generational_sessions.specs.Session.Request.{Asks, Tells, Swaps}
use Rattle.generational_sessions.specs.Session.Held.{Boxed, Reading, Writing, Owning, Nothing}
use Rattle.generational_sessions.specs.Session.SessionReply.{ABox, TheOld, TheSlot, TheId}
use Rattle.generational_laws.specs.Carrying.{KnowsGuard, rename_box, rename_guard, shift_owner}
use Rattle.generational_laws.specs.Carrying.{Carries, KnowsBox}

-- a name of the numbered machine
abbrev pub number : ℕ → Name
number k = record { slot = k; generation = 0 }

abbrev pub IsNumberBelow : ℕ → Name → Type 0
IsNumberBelow n k = (k.generation ≡ 0) × (k.slot < n)

-- the numbers issued are those below n
pub record AreNumbersBelow (n : ℕ) (given : Names) : Type 0 where
  pub count : set.len given ≡ n
  pub all : (k : Name) → IsNumberBelow n k → set.contains given k ≡ true
  pub only : (k : Name) → set.contains given k ≡ true → IsNumberBelow n k

-- the name in a list that a number represents
abbrev pub name_numbered : List Name → Name → Name
name_numbered order k = slice_index_or order k.slot k

module _ {T : Type 0} (f : Name → Name) (d : ℕ) (store : ℕ) where
  abbrev pub rename_held : Held T → Held T
  rename_held (Boxed b) = Boxed (rename_box f d store b)
  rename_held (Reading g) = Reading (rename_guard f d store g)
  rename_held (Writing g v) = Writing (rename_guard f d store g) v
  rename_held (Owning o) = Owning (shift_owner f d store o)
  rename_held Nothing = Nothing

abbrev pub KnowsHeld : {T : Type 0} → (Name → Type 0) → ℕ → Held T → Type 0
KnowsHeld Knows store (Boxed b) = KnowsBox Knows store b
KnowsHeld Knows store (Reading g) = KnowsGuard Knows store g
KnowsHeld Knows store (Writing g v) = KnowsGuard Knows store g
KnowsHeld Knows store _ = Unit {0}

-- a session's state and table are those of another, names and tickets aside
pub record CarriesSession {T : Type 0}
    (f : Name → Name) (d : ℕ) (Knows : Name → Type 0) (s a : SessionState T) : Type 0 where
  pub state : Carries f d (λ v. v) Knows s.state a.state
  pub table : s.table ≡ list_map (rename_held f d a.state.number) a.table
  pub known : AllByRecursion (KnowsHeld Knows a.state.number) a.table

-- the names issued are those of a list without duplicates
pub record AreListed (order : List Name) (given : Names) : Type 0 where
  pub count : set.len given ≡ length order
  pub all : (n : Name) → set.contains given n ≡ among order n

-- A session matches a numbered one: a list of all names issued, each of them once, carries the one into
-- the other.
pub record Matches {T : Type 0} (s a : SessionState T) : Type 0 where
  pub order : List Name
  pub difference : ℕ
  pub carries : CarriesSession (name_numbered order) difference (IsNumberBelow (length order)) s a
  pub names : AreListed order s.state.given
  pub numbers : AreNumbersBelow (length order) a.state.given

-- the id that represents every id
abbrev pub any_id : GenerationalBoxId
any_id = id_of 0 (number 0)

module _ {T : Type 0} where
  -- a reply with ids and slot numbers set aside: it stays a box, an id or the number of a slot
  abbrev pub erase : SessionReply T → SessionReply T
  erase (ABox b) = ABox (record b { id = any_id })
  erase (TheId id) = TheId any_id
  erase (TheSlot n) = TheSlot 0
  erase reply = reply

  -- the error for memory or for numbers in a reply
  abbrev pub refusal_in : SessionReply T → Option StoreError
  refusal_in (SessionReply.Lacking e) = want e
  refusal_in (SessionReply.HandedBack v e) = want e
  refusal_in _ = None

  -- the numbers after all that were issued
  abbrev pub next_numbers : SessionState T → NewNames
  next_numbers a =
      let count = set.len a.state.given in
      record { first = number count; second = number (count + 1) }

  -- What a call comes to in the numbered machine. An error that it meets is the reply, with the value if
  -- one was passed in, and changes nothing.
  abbrev pub numbered : SessionState T
      → Call T → Request T → Option StoreError → SessionReply T × SessionState T
  numbered a c (Asks action) None = settle a c (act a.state action (next_numbers a))
  numbered a c (Tells x) None = (x, add_place a Nothing)
  numbered a c (Swaps p g v old) None = (TheOld old, add_place (swap a p g v) Nothing)
  numbered a c _ (Some e) = (refusal c e, add_place a Nothing)

  -- a call of the numbered machine
  abbrev pub numbered_act : SessionState T
      → Call T → Option StoreError → SessionReply T × SessionState T
  numbered_act a c e = numbered a c (ask a c) e

  -- the replies to calls, with the errors that they met; calls beyond the errors met none
  abbrev pub answers : SessionState T
      → List (Call T) → List (Option StoreError) → List (SessionReply T)
  answers a [] refusals = []
  answers a (c ∷ calls) (e ∷ refusals) =
      let out = numbered_act a c e in out.0 ∷ answers out.1 calls refusals
  answers a (c ∷ calls) [] = let out = numbered_act a c None in out.0 ∷ answers out.1 calls []

  -- the numbered session after the calls
  abbrev pub session_after : SessionState T → List (Call T) → List (Option StoreError) → SessionState T
  session_after a [] refusals = a
  session_after a (c ∷ calls) (e ∷ refusals) = session_after (numbered_act a c e).1 calls refusals
  session_after a (c ∷ calls) [] = session_after (numbered_act a c None).1 calls []

  -- The replies to calls are those of a numbered session, ids aside, that meets the errors in them; and
  -- the session after the calls matches the numbered session after them.
  pub record AnswersAs (a : SessionState T)
      (calls : List (Call T)) (replies : List (SessionReply T)) (r : SessionState T) : Type 0 where
    pub same : list_map erase replies
        ≡ list_map erase (answers a calls (list_map refusal_in replies))
    pub matches : Matches r (session_after a calls (list_map refusal_in replies))

  -- the numbered session of a store's number in which nothing was called
  abbrev pub empty_session : ℕ → SessionState T
  empty_session store = record { state = fresh store 0 0; table = [] }
