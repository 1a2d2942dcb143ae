use Rattle.session_table.proofs.{◌<◌, ℕ}
use Rattle.session_table.specs.Homes.{IsInRow}
use Rattle.session_table.proofs.homes.Homes.row_of.Given as goal

abbrev pub invariant-loop-row : goal.invariant-loop-row
invariant-loop-row g l = (r : ℕ) → r < l.row → IsInRow l.rows.entries r l.entry → ⊥
