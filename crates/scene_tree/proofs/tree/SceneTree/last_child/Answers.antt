use Rattle.scene_tree.proofs.{arith, last_yielded}
use Rattle.scene_tree.proofs.tree.SceneTree.last_child.Goals as goal

pub returns-clause-child : goal.returns-clause-child
returns-clause-child g c = grind (arith, last_yielded)
