use Rattle.reactive.proofs.Linking.{Trusts, Waits}
use Rattle.reactive.proofs.{List, ℕ, ◌+◌}
use Rattle.dirty_slots.specs.Blocks.{AreDoubted}
use Rattle.reactive.specs.Visiting.{AreToVisit, count_known, HaveRoom}
use Rattle.reactive.proofs.links.Marks.forget.Given as goal

-- What was forgotten and isn't visited yet is listed.
abbrev pub invariant-loop-self : goal.invariant-loop-self
invariant-loop-self l = HaveRoom l.self × ((list : List ℕ) × AreToVisit l.self list
    × Waits l.web l.fn.self.known.items l.slot l.self.known.items list
    × Trusts l.dirty.clean.items l.fn.self.known.items l.slot l.self.known.items list)
    × AreDoubted l.fn.dirty l.dirty

abbrev pub decreases-loop-self : goal.decreases-loop-self
decreases-loop-self l = count_known l.self.known.items + count_known l.self.known.items + l.self.left
