use Rattle.reactive.proofs.{AllStand, AreKnown, Asked, book, List, list_map, nodes_in, take, ◌≡◌}
use Rattle.reactive.proofs.nodes.Nodes.verify.Given as goal

-- The results before the index are known to be right.
abbrev pub invariant-loop-place : goal.invariant-loop-place
invariant-loop-place g l = (answers : List (Asked _)) → list_map (λ a. a.key) answers ≡ l.reads
    → AllStand (nodes_in (g.S.AnyStorage.state l.self.store)) l.since answers
    → AreKnown (book (g.S.AnyStorage.state l.self.store) l.self.links) (take l.from answers)
    → AreKnown (book (g.S.AnyStorage.state l.self.store) l.self.links) (take l.place answers)
