-- Families: of each slot the parent and the children of the node that lives there, and when they are
-- those of trees.
use Rattle.std.specs.Prelude.{◌≡◌, ◌≢◌, ◌++◌, ℕ, suc, zero, List, [], ◌∷◌, Option, None, Some, nat_eq, map}
use Rattle.std.specs.Prelude.{slice_index_or, length, ◌+◌, ◌<◌}
use Rattle.std.specs.List.{count_by, flat_map}
use Rattle.scene_tree.specs.declared.links.Link.{Link}
use Rattle.scene_tree.specs.declared.spot.Spot.{Spot}
use Rattle.scene_tree.specs.declared.spot.Spot.TheVariants as spot
use Rattle.scene_tree.specs.Chains.{IsHeld, chain, head_or, last_or}
use Rattle.handles.specs.Handles.{slot_in}
use Rattle.scene_tree.specs.Nodes.{Node, without}
use Rattle.scene_tree.specs.Spots.{index_among, placed}

-- a node's parent, if it has one, and its children in order
pub record Family (T : Type 0) : Type 0 where
  pub parent : Option (Node T)
  pub children : List (Node T)

module _ {T : Type 0} where
  -- neither parent nor children
  abbrev pub alone : Family T
  alone = record { parent = None; children = [] }

  -- what a link says: the parent, and the children by their chain, which is no longer than there are links
  abbrev pub family_in : List (Link T) → Link T → Family T
  family_in links l = record { parent = l.parent; children = chain links (length links) l.first }

  abbrev pub families : List (Link T) → List (Family T)
  families links = map (family_in links) links

  -- the family of a slot, and its two parts
  abbrev pub family_at : List (Family T) → ℕ → Family T
  family_at fs slot = slice_index_or fs slot alone

  abbrev pub parent_at : List (Family T) → ℕ → Option (Node T)
  parent_at fs slot = (family_at fs slot).parent

  abbrev pub children_at : List (Family T) → ℕ → List (Node T)
  children_at fs slot = (family_at fs slot).children

  -- the children of each slot lie in the links, both ways
  abbrev pub AreChildrenLinked : List (Link T) → Type 0
  AreChildrenLinked links = (slot : ℕ) → IsHeld links slot (children_at (families links) slot)

  -- the slot of a parent, and of a slot's
  abbrev pub slot_of : Option (Node T) → Option ℕ
  slot_of None = None
  slot_of (Some n) = Some (slot_in n)

  abbrev pub above : List (Family T) → ℕ → Option ℕ
  above fs slot = slot_of (parent_at fs slot)

  -- how many nodes of a list live at a slot
  abbrev pub count_at : ℕ → List (Node T) → ℕ
  count_at slot list = count_by (λ n. nat_eq (slot_in n) slot) list

  -- a root is so many steps above a slot
  abbrev pub IsRooted : List (Family T) → ℕ → ℕ → Type 0
  IsRooted fs zero slot = above fs slot ≡ None
  IsRooted fs (suc steps) slot = (up : ℕ) × (above fs slot ≡ Some up) × IsRooted fs steps up

  -- a slot is so many steps below another
  abbrev pub IsUnder : List (Family T) → ℕ → ℕ → ℕ → Type 0
  IsUnder fs top zero slot = slot ≡ top
  IsUnder fs top (suc steps) slot =
      (up : ℕ) × (above fs slot ≡ Some up) × IsUnder fs top steps up

  -- each slot stands once among its parent's children, and in no other list, and going from parent to
  -- parent reaches a root
  pub record IsForest (fs : List (Family T)) : Type 0 where
    pub once : (s up : ℕ) → above fs s ≡ Some up → count_at s (children_at fs up) ≡ 1
    pub only : (s other : ℕ) → above fs s ≢ Some other → count_at s (children_at fs other) ≡ 0
    pub rooted : (s : ℕ) → (steps : ℕ) × IsRooted fs steps s

  -- a node, and then the children of each node of the list, in order
  abbrev pub IsInLevels : List (Family T) → Node T → List (Node T) → Type 0
  IsInLevels fs top list = list ≡ top ∷ flat_map (λ n. children_at fs (slot_in n)) list

  -- the nodes of a list are left alone, and each other slot has the family that it had
  pub record IsCleared (old new : List (Family T)) (gone : List (Node T)) : Type 0 where
    pub cleared : (s : ℕ) → 0 < count_at s gone → family_at new s ≡ alone
    pub others : (s : ℕ) → count_at s gone ≡ 0 → family_at new s ≡ family_at old s

  -- a slot is one of those that there were, or one more, which is alone
  pub record IsOpened (before : List (Family T)) (slot : ℕ) (after : List (Family T)) : Type 0 where
    pub same : (s : ℕ) → family_at after s ≡ family_at before s
    pub old : slot < length before → length after ≡ length before
    pub next : slot ≡ length before → length after ≡ length before + 1

  -- a node is one of a list, at the index that its id is found at
  pub record IsAmong (list : List (Node T)) (n : Node T) : Type 0 where
    pub front : List (Node T)
    pub here : Node T
    pub back : List (Node T)
    pub whole : list ≡ front ++ here ∷ back
    pub slot : slot_in here ≡ slot_in n
    pub place : index_among n list ≡ length front

  -- a spot is among the children of a node: its sibling, if it has one, is one of them
  abbrev pub IsSpotIn : List (Node T) → Spot T → Type 0
  IsSpotIn list (spot.FirstOf up) = Unit {0}
  IsSpotIn list (spot.LastOf up) = Unit {0}
  IsSpotIn list (spot.Before by) = IsAmong list by
  IsSpotIn list (spot.After by) = IsAmong list by

  -- a spot is between the front of a list and its back, which end and begin at these slots
  pub record IsGap (list : List (Node T)) (at : Spot T) (gap : Option ℕ × Option ℕ) : Type 0 where
    pub front : List (Node T)
    pub back : List (Node T)
    pub whole : list ≡ front ++ back
    pub put : (n : Node T) → placed at n list ≡ front ++ n ∷ back
    pub before : gap.0 ≡ last_or None front
    pub after : gap.1 ≡ head_or back None

  -- a node was made a child of another, at a spot among its children
  pub record IsAttached (before : List (Family T)) (parent : Node T) (spot : Spot T) (child : Node T) (after : List (Family T)) : Type 0 where
    pub long : length after ≡ length before
    pub here : parent_at after (slot_in child) ≡ Some parent
    pub parents : (s : ℕ) → s ≢ slot_in child → parent_at after s ≡ parent_at before s
    pub listed : children_at after (slot_in parent)
        ≡ placed spot child (children_at before (slot_in parent))
    pub others : (s : ℕ) → s ≢ slot_in parent → children_at after s ≡ children_at before s

  -- a node was taken out of its parent's children, if it had a parent
  pub record IsDetached (before : List (Family T)) (node : Node T) (after : List (Family T)) : Type 0 where
    pub long : length after ≡ length before
    pub here : parent_at after (slot_in node) ≡ None
    pub parents : (s : ℕ) → s ≢ slot_in node → parent_at after s ≡ parent_at before s
    pub lost : (s : ℕ) → above before (slot_in node) ≡ Some s
        → children_at after s ≡ without node (children_at before s)
    pub others : (s : ℕ) → above before (slot_in node) ≢ Some s
        → children_at after s ≡ children_at before s

  -- a node was taken out with all below it, which a list has level by level: first it was taken out of
  -- its parent's children, and then each of the list was left alone
  pub record IsCut (before : List (Family T)) (node : Node T) (list : List (Node T)) (after : List (Family T)) : Type 0 where
    pub level : IsInLevels before node list
    pub left : List (Family T)
    pub detached : IsDetached before node left
    pub long : length after ≡ length left
    pub cleared : IsCleared left after list
