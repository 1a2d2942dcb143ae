use Rattle.scene_tree.proofs.{families, IsPart, length, ◌-◌}
use Rattle.scene_tree.proofs.links.gather.Given as goal

abbrev pub invariant-loop-next : goal.invariant-loop-next
invariant-loop-next g l = IsPart (families l.links.items) l.fn.top l.list.items l.next

abbrev pub decreases-loop-next : goal.decreases-loop-next
decreases-loop-next g l = length l.links.items - l.next
