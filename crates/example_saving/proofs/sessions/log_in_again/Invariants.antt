use Rattle.std.proofs.Common.{List, length, map, ◌++◌, ◌≡◌, ℕ}
use Rattle.std.specs.Map.{lookup}
use Rattle.std.specs.Prelude.{nat_eq}
use Rattle.example_saving.specs.Logins.{AllPut, seen_at, told_row}
use Rattle.example_saving.specs.declared.sessions.SessionRow.{SessionRow}
use Rattle.example_saving.proofs.sessions.log_in_again.Given as goal

-- the rows so far are logged in
abbrev pub invariant-loop-row : goal.invariant-loop-row
invariant-loop-row g l = (done : List SessionRow) × (l.rows ≡ done ++ l.left) × AllPut nat_eq l.table
    × ((id : ℕ) → seen_at nat_eq l.table id ≡ lookup (nat_eq id) (map told_row done))

abbrev pub decreases-loop-row : goal.decreases-loop-row
decreases-loop-row g l = length l.left
