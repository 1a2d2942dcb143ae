-- What a table of sessions shows of each session, and rows of sessions.
use Rattle.std.specs.Prelude.{◌≡◌, ◌++◌, ◌∷◌, ℕ, Bool, true, List, [], Option, None, Some, option_map}
use Rattle.std.specs.Prelude.{map as list_map}
use Rattle.session_table.specs.Sessions.{Entry, LiveSession}
use Rattle.session_table.specs.Tables.{SessionsState, WasPut, keeps, session_in, shown_in}
use Rattle.example_saving.specs.declared.sessions.SessionRow.{SessionRow}

module _ {K T : Type 0} where
  -- a key's value before others, if there is one
  abbrev pub with_entry_value : K → Option T → List (K × T) → List (K × T)
  with_entry_value k None values = values
  with_entry_value k (Some v) values = (k, v) ∷ values

  -- more values after those of a session
  abbrev pub with_values : List (K × T) → ℕ × List (K × T) → ℕ × List (K × T)
  with_values more s = (s.0, s.1 ++ more)

module _ {I K T : Type 0} where
  -- the values of entries that are live, with their keys, in order
  abbrev pub values_of_entries : SessionsState I K T → List (K × Entry T) → List (K × T)
  values_of_entries t [] = []
  values_of_entries t (e ∷ rest) = with_entry_value e.0 (shown_in t e.1) (values_of_entries t rest)

  -- a session to those who can't see entries: the time of its last use, and its values by their keys
  abbrev pub seen_in : SessionsState I K T → LiveSession K T → ℕ × List (K × T)
  seen_in t s = (s.used_at, values_of_entries t s.entries)

  -- each session of a table under its id
  abbrev pub seen_rows : SessionsState I K T → List (I × (ℕ × List (K × T)))
  seen_rows t = list_map (λ e. (e.0, seen_in t e.1)) t.sessions

  -- the session of an id, if it has one
  abbrev pub seen_at : (I → I → Bool) → SessionsState I K T → I → Option (ℕ × List (K × T))
  seen_at eq t id = option_map (seen_in t) (session_in eq t id)

  -- the table put each entry that a session has
  abbrev pub AllPut : (I → I → Bool) → SessionsState I K T → Type 0
  AllPut eq t = (id : I) (e : Entry T) → keeps eq t id e ≡ true → WasPut t e

-- a saved row under its id
abbrev pub told_row : SessionRow → ℕ × (ℕ × List (ℕ × ℕ))
told_row r = (r.id, (r.used_at, r.values.items))
