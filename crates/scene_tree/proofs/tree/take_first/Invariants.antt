use Rattle.scene_tree.proofs.{HasLostNodes, length, take, ◌-◌, ◌≤◌}
use Rattle.scene_tree.proofs.tree.take_first.Given as goal

abbrev pub invariant-rest : goal.invariant-rest
invariant-rest g l = (l.next ≤ length l.nodes.items) × HasLostNodes (g.S.AnyStorage.state l.fn.store)
    (take l.next l.nodes.items) (g.S.AnyStorage.state l.store)

abbrev pub decreases-rest : goal.decreases-rest
decreases-rest g l = length l.nodes.items - l.next
