use Rattle.scene_tree.proofs.{families, IsCleared, AreChildrenLinked, length, noted, take, ℕ, ◌≡◌}
use Rattle.scene_tree.proofs.links.clear_all.Given as goal

abbrev pub invariant-loop-node : goal.invariant-loop-node
invariant-loop-node g l = record {
  number : l.links.number ≡ l.fn.links.number;
  linked : AreChildrenLinked l.links.items;
  length : length l.links.items ≡ length l.fn.links.items;
  cleared : IsCleared (families l.fn.links.items) (families l.links.items)
      (take l.node-index l.nodes.items);
  noted : (s : ℕ) → noted l.links.items s ≡ noted l.fn.links.items s;
}
