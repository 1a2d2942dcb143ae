use Rattle.std.proofs.Common.{map, ◌≡◌}
use Rattle.example_saving.specs.Logins.{values_of_entries}
use Rattle.example_saving.proofs.sessions.session_values.Given as goal

-- the values of the entries so far
abbrev pub invariant-loop-key : goal.invariant-loop-key
invariant-loop-key g l = l.values.items ≡ values_of_entries l.table (map (λ item. (item.0.now, item.1)) l.yielded)
