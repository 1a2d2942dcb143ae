use Rattle.scene_tree.proofs.{drop, length, met, ◌-◌, ◌≡◌}
use Rattle.scene_tree.proofs.nodes.next_met.Given as goal

abbrev pub invariant-loop-slot : goal.invariant-loop-slot
invariant-loop-slot g l = met (g.S.AnyStorage.state l.store) l.only_roots (drop l.slot l.links.items)
    ≡ met (g.S.AnyStorage.state l.store) l.only_roots (drop l.from l.links.items)

abbrev pub decreases-loop-slot : goal.decreases-loop-slot
decreases-loop-slot g l = length l.links.items - l.slot
