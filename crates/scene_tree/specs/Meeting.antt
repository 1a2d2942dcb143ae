-- What a walk over the nodes of all slots yields.
use Rattle.std.specs.Prelude.{Bool, List, [], ◌∷◌, cond, is_some, not, ◌&&◌}
use Rattle.generational_core.specs.Seeing.{value_in}
use Rattle.generational_core.specs.State.{State}
use Rattle.scene_tree.specs.declared.links.Link.{Link}
use Rattle.handles.specs.Handles.{pointer_in}
use Rattle.scene_tree.specs.Nodes.{Node}

module _ {T : Type 0} where
  -- whether a link's node is yielded: it is live, and if only roots are yielded it has no parent
  abbrev pub is_met : State T → Bool → Link T → Bool
  is_met S roots l = is_some (value_in S (pointer_in l.node)) && not (roots && is_some l.parent)

  -- the nodes that are met, in the order of their links
  abbrev pub met : State T → Bool → List (Link T) → List (Node T)
  met S roots [] = []
  met S roots (l ∷ links) =
      cond (is_met S roots l) (l.node ∷ met S roots links) (met S roots links)
