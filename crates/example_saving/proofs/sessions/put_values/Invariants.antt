use Rattle.std.proofs.Common.{false, List, length, ◌++◌, ◌≡◌, ℕ}
use Rattle.std.specs.Prelude.{nat_eq, option_map}
use Rattle.example_saving.specs.Logins.{AllPut, seen_at, with_values}
use Rattle.example_saving.proofs.sessions.put_values.Given as goal

-- the values so far are put
abbrev pub invariant-loop-pair : goal.invariant-loop-pair
invariant-loop-pair g l = (done : List (ℕ × ℕ)) × (l.values ≡ done ++ l.left) × AllPut nat_eq l.table
    × (seen_at nat_eq l.table l.id ≡ option_map (with_values done) (seen_at nat_eq l.fn.table l.id))
    × ((other : ℕ) → nat_eq l.id other ≡ false → seen_at nat_eq l.table other ≡ seen_at nat_eq l.fn.table other)

abbrev pub decreases-loop-pair : goal.decreases-loop-pair
decreases-loop-pair g l = length l.left
