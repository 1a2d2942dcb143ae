-- Siblings: the nodes beside another among the children of its parent.
use Rattle.std.specs.Prelude.{ℕ, ◌+◌, suc, zero, List, [], Option, None, Some, slice_get}
use Rattle.scene_tree.specs.declared.links.Link.{Link}
use Rattle.scene_tree.specs.Chains.{noted}
use Rattle.scene_tree.specs.Families.{Family, children_at}
use Rattle.scene_tree.specs.Nodes.{Node}
use Rattle.scene_tree.specs.Spots.{index_among}
use Rattle.scene_tree.specs.Trees.{TreeState, children_of, parent_of}

module _ {T : Type 0} where
  -- the item before an index
  abbrev pub item_before : List (Node T) → ℕ → Option (Node T)
  item_before list zero = None
  item_before list (suc k) = slice_get list k

  -- the nodes right behind and right before another in a list, if there are any
  abbrev pub next_in : Node T → List (Node T) → Option (Node T)
  next_in n list = slice_get list (index_among n list + 1)

  abbrev pub previous_in : Node T → List (Node T) → Option (Node T)
  previous_in n list = item_before list (index_among n list)

  -- the children of a node's parent, itself among them; none of a root
  abbrev pub children_below : TreeState T → Option (Node T) → List (Node T)
  children_below t None = []
  children_below t (Some up) = children_of t up

  abbrev pub siblings_of : TreeState T → Node T → List (Node T)
  siblings_of t n = children_below t (parent_of t n)

  -- the same by slots: of a parent's slot the children, and the node that is noted at a slot
  abbrev pub siblings_at : List (Family T) → Option ℕ → List (Node T)
  siblings_at fs None = []
  siblings_at fs (Some up) = children_at fs up

  abbrev pub node_at : List (Link T) → Option ℕ → Option (Node T)
  node_at links None = None
  node_at links (Some slot) = noted links slot
