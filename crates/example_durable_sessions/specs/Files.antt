-- What a call leaves of the file, and of the sessions in memory.
use Rattle.std.specs.Prelude.{◌≡◌, ℕ, Bool, false, List, Ok, Option, codes, nat_eq}
use Rattle.sqlite.specs.Order.{Row}
use Rattle.sqlite.specs.Store.{Ghosts}
use Rattle.sqlite.specs.State.{HasCleanDisk, Survives, Executes, CommitsBy}
use Rattle.sqlite.specs.Held.{Held, state}
use Rattle.session_table.specs.Sessions.{LiveSession}
use Rattle.session_table.specs.Tables.{SessionsState, session_in}

-- ---- the statements

abbrev pub login_text : List ℕ
login_text = codes "INSERT INTO session (id, used_at) VALUES (?1, ?2)"

abbrev pub put_text : List ℕ
put_text = codes "INSERT INTO entry (session, key, value) VALUES (?1, ?2, ?3)"

abbrev pub touch_text : List ℕ
touch_text = codes "UPDATE session SET used_at = ?2 WHERE id = ?1"

abbrev pub logout_text : List ℕ
logout_text = codes "DELETE FROM session WHERE id = ?1"

module _ {S : Type 0} (g : Ghosts S) (sql : List ℕ) (params : Row) (old new : Held S) where
  -- A statement has run: what it means, by its text, is done to the database, and committed if no transaction
  -- is open.
  abbrev pub HasRun : Type 0
  HasRun = HasCleanDisk (state g new) → (count : ℕ) × Executes sql params (state g old) (state g new) (Ok count)

  -- A crash leaves a file that it could leave before the call, or what the statement commits.
  abbrev pub IsAtomic : Type 0
  IsAtomic = Survives (state g old) (state g new) (CommitsBy sql params (state g old))

-- ---- the sessions in memory

abbrev pub InMemory : Type 0
InMemory = SessionsState ℕ ℕ ℕ

abbrev pub session_of : InMemory → ℕ → Option (LiveSession ℕ ℕ)
session_of t id = session_in nat_eq t id

abbrev pub KeepsOthers : ℕ → InMemory → InMemory → Type 0
KeepsOthers id old new = (other : ℕ) → nat_eq id other ≡ false → session_of new other ≡ session_of old other
