use Rattle.session_table.proofs.{Session, slice_get, Some, ◌+◌, ◌<◌, ◌≡◌, ◌≤◌, ℕ}
use Rattle.std.specs.Prelude.{◌*◌, ◌/◌}
use Rattle.session_table.proofs.table.least_use.Given as goal

abbrev pub invariant-loop-step : goal.invariant-loop-step
invariant-loop-step g l = record {
  first : l.first ≡ l.row / 64 * 64;
  low : (place : ℕ) (e : g.row.I.Denot × Session g.row.K.Denot g.row.T.Denot) → place / 64 ≡ l.row / 64
      → place < l.first + l.step → slice_get l.rows.entries place ≡ Some e → l.least ≤ e.1.used_at;
}
