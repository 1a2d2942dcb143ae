use Rattle.scene_tree.proofs.{still_live}
use Rattle.scene_tree.proofs.tree.end_all.Goals as goal

pub end-requires-clause-live : goal.end-requires-clause-live
end-requires-clause-live g c = still_live _ c.loop-node.invariant c.deref-node-items.ensures.value
    c.loop-node-test.true c.requires.live c.requires.once
