use Rattle.scene_tree.proofs.{◌++◌, ◌≡◌}
use Rattle.scene_tree.proofs.links.push_children.Given as goal

abbrev pub invariant-loop-child : goal.invariant-loop-child
invariant-loop-child g l = l.list.items ≡ l.fn.list.items ++ l.yielded
