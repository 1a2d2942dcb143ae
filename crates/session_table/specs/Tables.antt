-- What a caller knows of a table of sessions.
use Rattle.std.specs.Prelude.{◌≡◌, ℕ, zero, suc, ◌+◌, Bool, true, false, cond, if◌then◌else◌, is_some}
use Rattle.std.specs.Prelude.{List, [], ◌∷◌, Option, None, Some, length, option_and_then, option_map, slice_get, swap_remove}
use Rattle.std.specs.Prelude.{map as list_map}
use Rattle.std.specs.List.{IsDistinct}
use Rattle.std.specs.Map.{keys_of, lookup}
use Rattle.generational_core.specs.Boxes.{name_of}
use Rattle.generational_core.specs.Names.{among}
use Rattle.generational_core.specs.Seeing.{value_in}
use Rattle.generational_core.specs.State.{State, IsGiven}
use Rattle.generational_errors.specs.declared.error.Location.{Location}
use Rattle.handles.specs.Handles.{pointer_in, IsOther}
use Rattle.handles.specs.Sites.{TellsLocation, told_at}
use Rattle.session_table.specs.declared.session.Session.{Session}
use Rattle.session_table.specs.Sessions.{Entry, LiveSession, find_entry, if_young, is_young, entry_names_in, entry_names, with_entry}

-- the state of the store, the sessions under their ids, and the locations at which values were put
pub record SessionsState (I K T : Type 0) : Type 0 where
  pub state : State T
  pub sessions : List (I × LiveSession K T)
  pub sites : List Location

-- the rows that pass a test: from the front on, the last one moves into the gap of each that doesn't. All
-- remaining ones are checked, or as many as the number says
abbrev pub swap_retain : {X : Type 0} → (X → Bool) → ℕ → List X → List X
swap_retain test zero rows = []
swap_retain test (suc n) [] = []
swap_retain test (suc n) (r ∷ rows) = if test r then r ∷ swap_retain test n rows
    else swap_retain test n (swap_remove (r ∷ rows) 0 r)

-- the rows that don't, in the order in which their places are taken
abbrev pub swap_shed : {X : Type 0} → (X → Bool) → ℕ → List X → List X
swap_shed test zero rows = []
swap_shed test (suc n) [] = []
swap_shed test (suc n) (r ∷ rows) = if test r then swap_shed test n rows
    else r ∷ swap_shed test n (swap_remove (r ∷ rows) 0 r)

-- what a row is to a caller
abbrev pub live : {K T : Type 0} → Session K T → LiveSession K T
live s = record { used_at = s.used_at; entries = s.entries.entries }

abbrev pub live_row : {I K T : Type 0} → I × Session K T → I × LiveSession K T
live_row e = (e.0, live e.1)

module _ {I K T : Type 0} where
  abbrev pub table_of : State T → List (I × Session K T) → List Location → SessionsState I K T
  table_of S rows sites = record { state = S; sessions = list_map live_row rows; sites = sites }

  -- what an entry shows: its value, or nothing once it was removed or its session has ended
  abbrev pub shown_in : SessionsState I K T → Entry T → Option T
  shown_in t e = value_in t.state (pointer_in e)

  -- an entry that the table gave, once
  abbrev pub WasPut : SessionsState I K T → Entry T → Type 0
  WasPut t e = IsGiven t.state (name_of (pointer_in e))

  -- where an entry's value was put, as the table says: nothing for another table's
  abbrev pub created_at : SessionsState I K T → Entry T → Option Location
  created_at t e = told_at t.state.number t.sites e

  -- what a table says of where a value was put, it says forever
  abbrev pub KeepsEntryLocations : SessionsState I K T → SessionsState I K T → Type 0
  KeepsEntryLocations old new =
      (e : Entry T) (l : Location) → created_at old e ≡ Some l → created_at new e ≡ Some l

  -- the ids of the sessions that were last used before a time, in the order in which they end
  abbrev pub expired_ids : ℕ → SessionsState I K T → List I
  expired_ids time t = list_map (λ row. row.0)
      (swap_shed (λ row. is_young time row.1) (length t.sessions) t.sessions)

  -- the session whose id passes a test, if there is one, and whether it keeps an entry,
  -- and what it has under a key that passes another
  abbrev pub find_session : (I → Bool) → SessionsState I K T → Option (LiveSession K T)
  find_session test t = lookup test t.sessions

  abbrev pub keeps_by : (I → Bool) → SessionsState I K T → Entry T → Bool
  keeps_by test t e = among (entry_names_in (find_session test t)) (name_of (pointer_in e))

  abbrev pub value_under : (I → Bool) → (K → Bool) → SessionsState I K T → Option T
  value_under id key t = option_and_then (shown_in t) (find_entry key (find_session id t))

  -- at most one entry's value changes
  pub record Replaces (t : SessionsState I K T) (e : Entry T) (u : SessionsState I K T) : Type 0 where
    pub others : (f : Entry T) → IsOther e f → shown_in u f ≡ shown_in t f
    pub sessions : u.sessions ≡ t.sessions
    pub put : (f : Entry T) → WasPut t f → WasPut u f
    pub told : (f : Entry T) → created_at u f ≡ created_at t f
    pub ticket : u.state.next ≡ t.state.next

  -- with `==` of ids: the session of an id, if there is one, whether there is, and whether it keeps an
  -- entry
  module _ (eq : I → I → Bool) where
    abbrev pub session_in : SessionsState I K T → I → Option (LiveSession K T)
    session_in t id = find_session (eq id) t

    abbrev pub has_session : SessionsState I K T → I → Bool
    has_session t id = is_some (session_in t id)

    abbrev pub keeps : SessionsState I K T → I → Entry T → Bool
    keeps t id e = keeps_by (eq id) t e

    -- no id has two sessions; each entry that shows a value is in a session, and none in two; and each
    -- that is in one shows a value, except for entries of other stores
    pub record IsOrderly (t : SessionsState I K T) : Type 0 where
      pub once : IsDistinct eq (keys_of t.sessions)
      pub kept : (e : Entry T) → is_some (shown_in t e) ≡ true → (id : I) × (keeps t id e ≡ true)
      pub apart : (i j : I) (e : Entry T) → eq i j ≡ false → keeps t i e ≡ true → keeps t j e ≡ false
      pub live : (id : I) (e : Entry T) → keeps t id e ≡ true
          → (pointer_in e).id.store ≡ t.state.number → is_some (shown_in t e) ≡ true

    -- a new entry is under a key in the session whose id passes a test, put at a location, and nothing else
    -- changes
    pub record Puts (test : I → Bool) (k : K) (l : Location) (t : SessionsState I K T) (e : Entry T)
        (u : SessionsState I K T) : Type 0 where
      pub kept : find_session test u ≡ option_map (with_entry k e) (find_session test t)
      pub still : (other : I) (f : Entry T) → keeps t other f ≡ true → keeps u other f ≡ true
      pub unkept : (other : I) (f : Entry T) → WasPut t f → keeps t other f ≡ false → keeps u other f ≡ false
      pub others : (other : I) → test other ≡ false → session_in u other ≡ session_in t other
      pub count : length u.sessions ≡ length t.sessions
      pub beside : (f : Entry T) → IsOther e f → shown_in u f ≡ shown_in t f
      pub left : (f : Entry T) → WasPut t f → shown_in u f ≡ shown_in t f
      pub new : WasPut t e → ⊥
      pub here : TellsLocation (created_at u e) l
      pub tells : KeepsEntryLocations t u
      pub put : (f : Entry T) → WasPut t f → WasPut u f
      pub given : WasPut u e
      pub ticket : u.state.next ≡ t.state.next

    -- the session at an index ends, and nothing else; the last one moves into its place
    pub record EndsAt (place : ℕ) (t u : SessionsState I K T) : Type 0 where
      pub ended : I × LiveSession K T
      pub there : slice_get t.sessions place ≡ Some ended
      pub found : session_in t ended.0 ≡ Some ended.1
      pub sessions : (id : I) → session_in u id ≡ cond (eq ended.0 id) None (session_in t id)
      pub order : u.sessions ≡ swap_remove t.sessions place ended
      pub fewer : length u.sessions + 1 ≡ length t.sessions
      pub gone : (e : Entry T) → among (entry_names ended.1.entries) (name_of (pointer_in e)) ≡ true
          → shown_in u e ≡ None
      pub left : (e : Entry T) → among (entry_names ended.1.entries) (name_of (pointer_in e)) ≡ false
          → shown_in u e ≡ shown_in t e
      pub put : (e : Entry T) → WasPut t e → WasPut u e
      pub told : (e : Entry T) → created_at u e ≡ created_at t e
      pub ticket : u.state.next ≡ t.state.next

    -- the sessions that were last used before a time have ended, and nothing else: from the front on, the
    -- last one took the place of each
    pub record HasExpired (time : ℕ) (t u : SessionsState I K T) : Type 0 where
      pub ids : (id : I) → session_in u id ≡ if_young time (session_in t id)
      pub order : u.sessions ≡ swap_retain (λ row. is_young time row.1) (length t.sessions) t.sessions
      pub gone : (id : I) (e : Entry T) → keeps t id e ≡ true → has_session u id ≡ false → shown_in u e ≡ None
      pub kept : (id : I) (e : Entry T) → keeps t id e ≡ true → has_session u id ≡ true
          → shown_in u e ≡ shown_in t e
      pub none : (e : Entry T) → shown_in t e ≡ None → shown_in u e ≡ None
      pub put : (e : Entry T) → WasPut t e → WasPut u e
      pub told : (e : Entry T) → created_at u e ≡ created_at t e
      pub ticket : u.state.next ≡ t.state.next
