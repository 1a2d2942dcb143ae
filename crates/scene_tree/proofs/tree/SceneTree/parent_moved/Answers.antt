use Rattle.scene_tree.proofs.{arith, move_within, ok_both}
use Rattle.scene_tree.proofs.tree.SceneTree.parent_moved.Goals as goal

pub returns-clause-may : goal.returns-clause-may
returns-clause-may g c = grind (arith, ok_both, move_within)
