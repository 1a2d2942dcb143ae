use Rattle.scene_tree.proofs.{HasLostNodes, take}
use Rattle.scene_tree.proofs.tree.end_all.Given as goal

abbrev pub invariant-loop-node : goal.invariant-loop-node
invariant-loop-node g l = HasLostNodes (g.S.AnyStorage.state l.fn.store)
    (take l.node-index l.nodes.items) (g.S.AnyStorage.state l.store)
