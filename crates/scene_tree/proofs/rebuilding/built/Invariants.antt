use Rattle.std.proofs.Common.{◌≡◌, take}
use Rattle.scene_tree.specs.Building.{AreRowsOf}
use Rattle.scene_tree.specs.Families.{AreChildrenLinked, families}
use Rattle.scene_tree.specs.Keeping.{AreNodesNoted, IsTreeKept}
use Rattle.scene_tree.proofs.rebuilding.built.Given as goal

-- the rows so far are linked
abbrev pub invariant-loop-row : goal.invariant-loop-row
invariant-loop-row g l = record {
  kept : IsTreeKept (g.S.AnyStorage.state l.store) (families l.links.items);
  linked : AreChildrenLinked l.links.items;
  noted : AreNodesNoted (g.S.AnyStorage.state l.store) l.links.items;
  number : l.links.number ≡ (g.S.AnyStorage.state l.store).number;
  rows : AreRowsOf (g.S.AnyStorage.state l.store) (families l.links.items) (take l.row l.rows);
}
