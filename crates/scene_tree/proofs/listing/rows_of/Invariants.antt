use Rattle.std.proofs.Common.{◌+◌, ◌-◌, length}
use Rattle.scene_tree.specs.Building.{AreListed}
use Rattle.scene_tree.specs.Families.{families}
use Rattle.scene_tree.proofs.listing.rows_of.Given as goal

-- the children of the roots so far are listed, with all below them
abbrev pub invariant-loop-slot : goal.invariant-loop-slot
invariant-loop-slot g l = AreListed (g.S.AnyStorage.state l.store) (families l.links.items) l.slot (length l.rows.items) l.rows.items

-- and those of this root and of the children of the first rows
abbrev pub invariant-loop-next : goal.invariant-loop-next
invariant-loop-next g l = AreListed (g.S.AnyStorage.state l.store) (families l.links.items) (l.slot + 1) l.next l.rows.items

abbrev pub decreases-loop-next : goal.decreases-loop-next
decreases-loop-next g l = length l.links.items - l.next
