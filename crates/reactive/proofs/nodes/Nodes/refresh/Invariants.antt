use Rattle.reactive.proofs.{book, Graph, is_some, IsOnTheWay, IsSimple, IsSound, kinds_of, known_of, nodes_in, true}
use Rattle.reactive.proofs.{[], ◌≡◌, ◌≢◌, None}
use Rattle.reactive.specs.Settling.{Lasts}
use Rattle.reactive.proofs.nodes.Nodes.refresh.Given as goal

-- It is on the path from the node that was read; if that was known, this is the first step, at its first read.
abbrev pub invariant-loop-step : goal.invariant-loop-step
invariant-loop-step g l = IsSimple (g.S.AnyStorage.state l.self.store) × (l.self.revision ≡ l.fn.self.revision)
    × ((G : Graph _) → IsSound g.R.Rule.plan G l.fn.self.revision (book (g.S.AnyStorage.state l.fn.self.store) l.fn.self.links)
    → IsOnTheWay g.R.Rule.plan G l.fn.self.revision (book (g.S.AnyStorage.state l.self.store) l.self.links) l.fn.key
    l.path.items l.top)
    × (kinds_of (nodes_in (g.S.AnyStorage.state l.self.store))
    ≡ kinds_of (nodes_in (g.S.AnyStorage.state l.fn.self.store)))
    × (is_some (known_of (book (g.S.AnyStorage.state l.fn.self.store) l.fn.self.links) l.fn.key) ≡ true
    → (l.path.items ≡ []) × (l.top.key ≡ l.fn.key) × (l._step ≡ 0)
    × (g.S.AnyStorage.state l.self.store ≡ g.S.AnyStorage.state l.fn.self.store) × (l.self.links ≡ l.fn.self.links)
    × (l.top.place ≢ None))
    × ((G : Graph _) → IsSound g.R.Rule.plan G l.fn.self.revision (book (g.S.AnyStorage.state l.fn.self.store) l.fn.self.links)
    → Lasts (book (g.S.AnyStorage.state l.fn.self.store) l.fn.self.links)
    (book (g.S.AnyStorage.state l.self.store) l.self.links))
    × (l.faults ≡ l.fn.faults)
