-- What a walk from parent to parent yields, and what is left of one over children.
use Rattle.std.specs.Prelude.{◌≡◌, ℕ, suc, zero, ◌<◌, length, List, [], ◌∷◌, Option, None, Some}
use Rattle.scene_tree.specs.declared.links.Link.{Link}
use Rattle.scene_tree.specs.Chains.{IsChain, chain, head_or}
use Rattle.scene_tree.specs.Families.{Family, parent_at}
use Rattle.handles.specs.Handles.{slot_in}
use Rattle.scene_tree.specs.Nodes.{Node}

module _ {T : Type 0} where
  -- the nodes that are met from one on, from parent to parent, in so many steps at most
  abbrev pub way_up : List (Family T) → ℕ → Option (Node T) → List (Node T)
  way_up fs zero next = []
  way_up fs (suc steps) None = []
  way_up fs (suc steps) (Some n) = n ∷ way_up fs steps (parent_at fs (slot_in n))

  -- a node, if there is one, has a slot of the families
  abbrev pub IsNodeWithin : List (Family T) → Option (Node T) → Type 0
  IsNodeWithin fs None = Unit {0}
  IsNodeWithin fs (Some n) = slot_in n < length fs

  -- what is left of a walk over children begins at a slot, and lies in the links up to the last child
  pub record IsRest (links : List (Link T)) (next : Option ℕ) : Type 0 where
    pub before : Option ℕ
    pub first : next ≡ head_or (chain links (length links) next) None
    pub lies : IsChain links before (chain links (length links) next) None
