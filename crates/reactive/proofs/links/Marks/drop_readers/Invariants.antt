use Rattle.reactive.proofs.Linking.{Dropping}
use Rattle.reactive.proofs.{List, ℕ, ◌+◌, ◌≤◌}
use Rattle.reactive.specs.Visiting.{AreToVisit, count_known, HaveRoom}
use Rattle.reactive.proofs.links.Marks.drop_readers.Given as goal

abbrev pub invariant-loop-edge : goal.invariant-loop-edge
invariant-loop-edge l = HaveRoom l.self
    × (count_known l.self.known.items + count_known l.self.known.items + l.self.left
    ≤ count_known l.fn.self.known.items + count_known l.fn.self.known.items + l.fn.self.left)
    × ((before : List ℕ) → AreToVisit l.fn.self before → (list : List ℕ) × AreToVisit l.self list
    × Dropping l.web l.fn.self.known.items before l.edge-items l.edge-index l.self.known.items list)
