-- Handles of nodes, and lists of them.
use Rattle.std.specs.Prelude.{ℕ, List, not, filter}
use Rattle.std.specs.List.{count_by}
use Rattle.handles.specs.Handles.{id_in, is_same}
use Rattle.handles.specs.declared.handle.Handle.{Handle}
use Rattle.scene_tree.specs.declared.node.NodeKind.{NodeKind}

abbrev pub Node : Type 0 → Type 0
Node T = Handle T NodeKind

module _ {T : Type 0} where
  -- the number of the store of a node's tree
  abbrev pub number_in : Node T → ℕ
  number_in n = (id_in n).store

  -- how many times a node is in a list, and the list without it
  abbrev pub times : Node T → List (Node T) → ℕ
  times n list = count_by (λ c. is_same c n) list

  abbrev pub without : Node T → List (Node T) → List (Node T)
  without n list = filter (λ c. not (is_same c n)) list
