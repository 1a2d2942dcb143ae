use Rattle.scene_tree.proofs.{arith, still_live}
use Rattle.scene_tree.proofs.tree.take_first.Goals as goal

pub end-requires-clause-live : goal.end-requires-clause-live
end-requires-clause-live g c = grind (arith, still_live)
