-- How a move fails.
use Rattle.std.specs.Prelude.{◌≡◌, ◌⊎◌, true, Err, None, OnErr, Result}
use Rattle.scene_tree.specs.declared.node.TreeError.{TreeError}
use Rattle.scene_tree.specs.declared.node.TreeError.TheVariants as error
use Rattle.scene_tree.specs.declared.spot.Spot.{Spot}
use Rattle.scene_tree.specs.Nodes.{Node}
use Rattle.scene_tree.specs.Spots.{named}
use Rattle.scene_tree.specs.Trees.{TreeState, CanMove, IsBelow, created_at, is_live, parent_for, stale_of, value_of}

-- a result fails as a move of this node to this spot does
pub record FailsAsMove {T R : Type 0} (t : TreeState T) (node : Node T) (to : Spot T)
    (result : Result R TreeError) : Type 0 where
  -- with `Stale` of the node, if it was removed
  pub gone : value_of t node ≡ None → result ≡ Err (error.Stale (stale_of t node))
  -- or else with `Stale` of the spot's node, if that was removed
  pub stale : is_live t node ≡ true → value_of t (named to) ≡ None
      → result ≡ Err (error.Stale (stale_of t (named to)))
  -- or else with `Cycle`, if the spot's node is the node or below it
  pub cycle : is_live t node ≡ true → IsBelow t node (named to) → result ≡ Err error.Cycle
  -- or else with `NoParent`, if the spot is beside a root
  pub root : CanMove t node (named to) → parent_for t to ≡ None
      → result ≡ Err (error.NoParent (created_at t (named to)))
  -- and in no other case
  pub why : OnErr result ((value_of t node ≡ None)
      ⊎ (value_of t (named to) ≡ None)
      ⊎ IsBelow t node (named to)
      ⊎ (parent_for t to ≡ None))
