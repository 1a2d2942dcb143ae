-- The model of a tree.
use Rattle.std.specs.FinMap as map
use Rattle.std.specs.List.{flat_map}
use Rattle.std.specs.Prelude.{◌≡◌, ◌<◌, ◌≤◌, ◌+◌, ◌++◌, ◌↔◌, [], ◌∷◌, map as list_map, ℕ, suc, zero, true, Bool, List, Option, None, Some}
use Rattle.std.specs.Prelude.{is_some, if◌then◌else◌}
use Rattle.generational_core.specs.Boxes.{name_of}
use Rattle.generational_core.specs.Seeing.{value_in}
use Rattle.generational_core.specs.State.{State, IsGiven}
use Rattle.generational_errors.specs.declared.error.Location.{Location}
use Rattle.handles.specs.Sites.{told_at}
use Rattle.handles.specs.declared.stale.Stale.{Stale}
use Rattle.scene_tree.specs.declared.spot.Spot.{Spot}
use Rattle.scene_tree.specs.declared.spot.Spot.TheVariants as spot
use Rattle.scene_tree.specs.Families.{Family, alone, family_at}
use Rattle.handles.specs.Handles.{IsOther, IsSame, pointer_in, slot_in}
use Rattle.scene_tree.specs.Nodes.{Node, times}

-- the state of the store, of each slot the family of the node that lives there, and the locations at which
-- nodes were made
pub record TreeState (T : Type 0) : Type 0 where
  pub state : State T
  pub families : List (Family T)
  pub sites : List Location

module _ {T : Type 0} where
  -- a node's value, or None once it was removed
  abbrev pub value_of : TreeState T → Node T → Option T
  value_of t n = value_in t.state (pointer_in n)

  abbrev pub is_live : TreeState T → Node T → Bool
  is_live t n = is_some (value_of t n)

  -- how many nodes are live: each has a cell of the store, and no other is there
  abbrev pub live_count : TreeState T → ℕ
  live_count t = map.len t.state.cells

  -- a handle that the tree has issued
  abbrev pub WasMade : TreeState T → Node T → Type 0
  WasMade t n = IsGiven t.state (name_of (pointer_in n))

  -- where a node was made, by the tree's locations: None for another tree's
  abbrev pub created_at : TreeState T → Node T → Option Location
  created_at t n = told_at t.state.number t.sites n

  abbrev pub stale_of : TreeState T → Node T → Stale
  stale_of t n = record { created_at = created_at t n }

  -- the tree keeps each location of a node
  abbrev pub KeepsNodeLocations : TreeState T → TreeState T → Type 0
  KeepsNodeLocations old new =
      (n : Node T) (l : Location) → created_at old n ≡ Some l → created_at new n ≡ Some l

  -- a node's parent and children; a node that was removed has none
  abbrev pub family_of : TreeState T → Node T → Family T
  family_of t n = if is_live t n then family_at t.families (slot_in n) else alone

  abbrev pub parent_of : TreeState T → Node T → Option (Node T)
  parent_of t n = (family_of t n).parent

  abbrev pub children_of : TreeState T → Node T → List (Node T)
  children_of t n = (family_of t n).children

  -- the parent of what is put at a spot: a sibling has it, if it has one
  abbrev pub parent_for : TreeState T → Spot T → Option (Node T)
  parent_for t (spot.FirstOf parent) = Some parent
  parent_for t (spot.LastOf parent) = Some parent
  parent_for t (spot.Before sibling) = parent_of t sibling
  parent_for t (spot.After sibling) = parent_of t sibling

  -- from one tree to another a node is unchanged: it has the same value and the same family
  pub record NodeIsUnchanged (old : TreeState T) (n : Node T) (new : TreeState T) : Type 0 where
    pub value : value_of new n ≡ value_of old n
    pub family : family_of new n ≡ family_of old n

  -- a root is so many steps above a node
  abbrev pub IsRootedIn : TreeState T → ℕ → Node T → Type 0
  IsRootedIn t zero n = parent_of t n ≡ None
  IsRootedIn t (suc steps) n = (up : Node T) × (parent_of t n ≡ Some up) × IsRootedIn t steps up

  -- a list has a node's parent, the parent of that, and so on up to a root
  abbrev pub AreAncestors : TreeState T → Node T → List (Node T) → Type 0
  AreAncestors t n [] = parent_of t n ≡ None
  AreAncestors t n (up ∷ ups) = (parent_of t n ≡ Some up) × AreAncestors t up ups

  -- a node is so many steps below another, and is that node or below it
  abbrev pub IsStepsBelow : TreeState T → Node T → ℕ → Node T → Type 0
  IsStepsBelow t top zero n = IsSame n top
  IsStepsBelow t top (suc steps) n =
      (up : Node T) × (parent_of t n ≡ Some up) × IsStepsBelow t top steps up

  abbrev pub IsBelow : TreeState T → Node T → Node T → Type 0
  IsBelow t top n = (steps : ℕ) × IsStepsBelow t top steps n

  -- a node may become a child of another: both are live, and the other isn't the node or below it
  pub record CanMove (t : TreeState T) (moved to : Node T) : Type 0 where
    pub node : is_live t moved ≡ true
    pub parent : is_live t to ≡ true
    pub apart : IsBelow t moved to → ⊥

  -- a list has the nodes that are a node or below it, each once: first the node, and then the
  -- children of each node of the list, in order
  pub record IsSubtree (t : TreeState T) (top : Node T) (list : List (Node T)) : Type 0 where
    pub levels : list ≡ top ∷ flat_map (children_of t) list
    pub below : (n : Node T) → 0 < times n list ↔ IsBelow t top n
    pub once : (n : Node T) → times n list ≤ 1

  -- a list has each live node, once
  pub record AreAll (t : TreeState T) (list : List (Node T)) : Type 0 where
    pub live : (n : Node T) → 0 < times n list ↔ is_live t n ≡ true
    pub once : (n : Node T) → times n list ≤ 1

  -- a list has each live node without a parent, once
  pub record AreRoots (t : TreeState T) (list : List (Node T)) : Type 0 where
    pub roots : (n : Node T) → 0 < times n list ↔ (is_live t n ≡ true) × (parent_of t n ≡ None)
    pub once : (n : Node T) → times n list ≤ 1

  -- what is read of nodes that wait, each with a depth, so many at most: the first, and then its children,
  -- one step deeper, and the others that wait
  unfoldable pub outline_of : TreeState T → ℕ → List (ℕ × Node T) → List (ℕ × Node T)
  outline_of t zero waiting = []
  outline_of t (suc limit) [] = []
  outline_of t (suc limit) (r ∷ waiting) =
      r ∷ outline_of t limit (list_map (λ n. (r.0 + 1, n)) (children_of t r.1) ++ waiting)

  -- a node stands once among its parent's children, and in no other node's, and going from parent to
  -- parent reaches a root
  pub record IsTree (t : TreeState T) : Type 0 where
    pub once : (n up : Node T) → parent_of t n ≡ Some up → times n (children_of t up) ≡ 1
    pub only : (n other : Node T)
        → ((up : Node T) → parent_of t n ≡ Some up → IsOther up other)
        → times n (children_of t other) ≡ 0
    pub rooted : (n : Node T) → (steps : ℕ) × IsRootedIn t steps n
