use Rattle.reactive.proofs.{length, ◌+◌, ◌≡◌, ℕ}
use Rattle.std.specs.Prelude.{◌-◌}
use Rattle.reactive.specs.Links.{edges_at}
use Rattle.reactive.proofs.links.Web.reserve_readers.Given as goal

-- Each slot has the readers that it had.
abbrev pub invariant-loop-self : goal.invariant-loop-self
invariant-loop-self l = (l.self.owners ≡ l.fn.self.owners) × (l.self.number ≡ l.fn.self.number)
    × ((s : ℕ) → edges_at l.self s ≡ edges_at l.fn.self s)

abbrev pub decreases-loop-self : goal.decreases-loop-self
decreases-loop-self l = (l.slot + 1) - length l.self.readers.items
