-- Spots: positions among the children of a node.
use Rattle.std.specs.Prelude.{ℕ, ◌+◌, ◌++◌, ◌∷◌, [], List}
use Rattle.std.specs.List.{insert, position_or_len}
use Rattle.scene_tree.specs.declared.spot.Spot.{Spot}
use Rattle.scene_tree.specs.declared.spot.Spot.TheVariants as spot
use Rattle.handles.specs.Handles.{is_same}
use Rattle.scene_tree.specs.Nodes.{Node}

module _ {T : Type 0} where
  -- the node that a spot names: a parent, or a sibling
  abbrev pub named : Spot T → Node T
  named (spot.FirstOf parent) = parent
  named (spot.LastOf parent) = parent
  named (spot.Before sibling) = sibling
  named (spot.After sibling) = sibling

  -- the index of a node in a list, or the list's length
  abbrev pub index_among : Node T → List (Node T) → ℕ
  index_among n list = position_or_len (λ c. is_same c n) list

  -- a list of children with another node at a spot
  abbrev pub placed : Spot T → Node T → List (Node T) → List (Node T)
  placed (spot.FirstOf parent) n list = n ∷ list
  placed (spot.LastOf parent) n list = list ++ n ∷ []
  placed (spot.Before sibling) n list = insert list (index_among sibling list) n
  placed (spot.After sibling) n list = insert list (index_among sibling list + 1) n
