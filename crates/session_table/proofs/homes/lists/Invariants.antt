use Rattle.session_table.proofs.{◌<◌, ℕ}
use Rattle.session_table.specs.Homes.{IsEntryAt}
use Rattle.session_table.proofs.homes.lists.Given as goal

abbrev pub invariant-loop-index : goal.invariant-loop-index
invariant-loop-index g l = (i : ℕ) → i < l.index → IsEntryAt l.rows.entries l.row i l.entry → ⊥
