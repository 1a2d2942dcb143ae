use Rattle.reactive.proofs.{AreForgotten, AreDirtied, AreSpared, book, HasLostKeys, IsSimple, nodes_in, take}
use Rattle.reactive.proofs.nodes.Nodes.remove_all.Given as goal

-- The nodes of the keys before this one were removed, and no others.
abbrev pub invariant-loop-key : goal.invariant-loop-key
invariant-loop-key g l = IsSimple (g.S.AnyStorage.state l.self.store)
    × HasLostKeys (nodes_in (g.S.AnyStorage.state l.fn.self.store)) (take l.key-index l.keys)
    (nodes_in (g.S.AnyStorage.state l.self.store))
    × AreForgotten (book (g.S.AnyStorage.state l.fn.self.store) l.fn.self.links)
    (book (g.S.AnyStorage.state l.self.store) l.self.links)
    × AreSpared (book (g.S.AnyStorage.state l.fn.self.store) l.fn.self.links) (take l.key-index l.keys)
    (book (g.S.AnyStorage.state l.self.store) l.self.links)
    × AreDirtied (book (g.S.AnyStorage.state l.fn.self.store) l.fn.self.links) l.fn.dirty
    (book (g.S.AnyStorage.state l.self.store) l.self.links) l.dirty
