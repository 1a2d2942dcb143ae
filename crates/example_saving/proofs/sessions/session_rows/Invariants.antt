use Rattle.std.proofs.Common.{map, ◌≡◌}
use Rattle.session_table.specs.Tables.{live}
use Rattle.example_saving.specs.Logins.{seen_in, told_row}
use Rattle.example_saving.proofs.sessions.session_rows.Given as goal

-- the rows of the sessions so far
abbrev pub invariant-loop-id : goal.invariant-loop-id
invariant-loop-id g l = map told_row l.rows.items
    ≡ map (λ item. (item.0.now, seen_in l.table (live item.1.now))) l.yielded
