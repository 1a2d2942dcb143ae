-- Chains: how a list of children lies in the links of their slots.
use Rattle.std.specs.Prelude.{◌≡◌, ◌++◌, ℕ, suc, zero, List, [], ◌∷◌, Option, None, Some, map, slice_get}
use Rattle.scene_tree.specs.declared.links.Link.{Link}
use Rattle.handles.specs.Handles.{slot_in}
use Rattle.scene_tree.specs.Nodes.{Node}

module _ {T : Type 0} where
  -- of a slot's link: its node with the slots of the siblings before and after it, and the slots of the
  -- first and of the last child
  abbrev pub tie_of : Option (Link T) → Option (Node T × Option ℕ × Option ℕ)
  tie_of None = None
  tie_of (Some l) = Some (l.node, l.before, l.after)

  abbrev pub first_of : Option (Link T) → Option ℕ
  first_of None = None
  first_of (Some l) = l.first

  abbrev pub last_link_of : Option (Link T) → Option ℕ
  last_link_of None = None
  last_link_of (Some l) = l.last

  -- the node that is noted at a slot
  abbrev pub node_in : Option (Link T) → Option (Node T)
  node_in None = None
  node_in (Some l) = Some l.node

  abbrev pub noted : List (Link T) → ℕ → Option (Node T)
  noted links slot = node_in (slice_get links slot)

  -- the node of a tie, if there is one, and the slot after it
  abbrev pub node_tied : Option (Node T × Option ℕ × Option ℕ) → List (Node T)
  node_tied None = []
  node_tied (Some tie) = tie.0 ∷ []

  abbrev pub after_tied : Option (Node T × Option ℕ × Option ℕ) → Option ℕ
  after_tied None = None
  after_tied (Some tie) = tie.2

  -- the nodes from a slot on, from each to the one after it, so many at most
  abbrev pub chain : List (Link T) → ℕ → Option ℕ → List (Node T)
  chain links zero at = []
  chain links (suc n) None = []
  chain links (suc n) (Some slot) =
      node_tied (tie_of (slice_get links slot))
      ++ chain links n (after_tied (tie_of (slice_get links slot)))

  -- the slots of the first and of the last node of a list, or another if the list has none
  abbrev pub head_or : List (Node T) → Option ℕ → Option ℕ
  head_or [] other = other
  head_or (c ∷ cs) other = Some (slot_in c)

  abbrev pub last_or : Option ℕ → List (Node T) → Option ℕ
  last_or other [] = other
  last_or other (c ∷ cs) = last_or (Some (slot_in c)) cs

  -- the nodes of a list lie one after the other, behind one slot and before another
  abbrev pub IsChain : List (Link T) → Option ℕ → List (Node T) → Option ℕ → Type 0
  IsChain links before [] after = Unit {0}
  IsChain links before (c ∷ cs) after =
      (tie_of (slice_get links (slot_in c)) ≡ Some (c, before, head_or cs after))
      × IsChain links (Some (slot_in c)) cs after

  -- the link of a node without parent and children
  abbrev pub alone_at : Node T → Link T
  alone_at node =
      record { node = node; parent = None; first = None; last = None; before = None; after = None }

  -- a link read backwards: last is first, and after is before
  abbrev pub backwards : Link T → Link T
  backwards l = record l { first = l.last; last = l.first; before = l.after; after = l.before }

  -- links of which each is read backwards
  abbrev pub turned : List (Link T) → List (Link T)
  turned links = map backwards links

  -- a list has the children of a slot
  pub record IsHeld (links : List (Link T)) (slot : ℕ) (list : List (Node T)) : Type 0 where
    pub first : first_of (slice_get links slot) ≡ head_or list None
    pub last : last_link_of (slice_get links slot) ≡ last_or None list
    pub chain : IsChain links None list None

  -- links of which one slot's is changed
  abbrev pub changed : List (Link T) → ℕ → (Link T → Link T) → List (Link T)
  changed [] slot f = []
  changed (l ∷ links) zero f = f l ∷ links
  changed (l ∷ links) (suc slot) f = l ∷ changed links slot f

  -- after one child of a slot, or first if there is none, comes another
  abbrev pub after_put : List (Link T) → ℕ → Option ℕ → Option ℕ → List (Link T)
  after_put links slot None next = changed links slot (λ l. record l { first = next })
  after_put links slot (Some at) next = changed links at (λ l. record l { after = next })

  -- before one child of a slot, or last if there is none, comes another
  abbrev pub before_put : List (Link T) → ℕ → Option ℕ → Option ℕ → List (Link T)
  before_put links slot None next = changed links slot (λ l. record l { last = next })
  before_put links slot (Some at) next = changed links at (λ l. record l { before = next })

-- the number of the store of a tree's nodes, the links of its slots, and for how many there is room
pub record LinkState (T : Type 0) : Type 0 where
  pub number : ℕ
  pub items : List (Link T)
  pub room : ℕ
