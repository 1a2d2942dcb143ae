-- Links that are built of a store's cells and of rows, and rows that are listed of links.
use Rattle.std.specs.Prelude.{◌≡◌, ◌≤◌, ◌<◌, ◌+◌, ℕ, List, [], None, Some, length, map, slice_get, take}
use Rattle.std.specs.List.{flat_map}
use Rattle.std.specs.Option.{option_map}
use Rattle.generational_core.specs.State.{State}
use Rattle.handles.specs.Handles.{id_in, slot_in}
use Rattle.scene_tree.specs.declared.links.Link.{Link}
use Rattle.scene_tree.specs.declared.parts.ChildRow.{ChildRow}
use Rattle.scene_tree.specs.Chains.{noted}
use Rattle.scene_tree.specs.Families.{Family, AreChildrenLinked, above, alone, children_at, count_at, families, family_at}
use Rattle.scene_tree.specs.Keeping.{IsLiveIn}
use Rattle.scene_tree.specs.Nodes.{Node}
use Rattle.scene_tree.specs.Parts.{AreChildRows, children_told, parent_told}
use Rattle.scene_tree.specs.Trees.{TreeState, children_of, parent_of}

module _ {T : Type 0} where
  -- the tree of a state and families
  abbrev pub tree_of : State T → List (Family T) → TreeState T
  tree_of S fs = record { state = S; families = fs; sites = [] }

  -- no node has a parent or children, and what is noted at a slot is of that slot
  pub record AreLone (links : List (Link T)) : Type 0 where
    pub linked : AreChildrenLinked links
    pub lone : (s : ℕ) → family_at (families links) s ≡ alone
    pub placed : (s : ℕ) (h : Node T) → noted links s ≡ Some h → slot_in h ≡ s

  -- rows are those of families
  pub record AreRowsOf (S : State T) (fs : List (Family T)) (rows : List ChildRow) : Type 0 where
    pub parents : (n : Node T)
        → parent_told rows (id_in n) ≡ option_map id_in (parent_of (tree_of S fs) n)
    pub children : (n : Node T)
        → children_told rows (id_in n) ≡ map id_in (children_of (tree_of S fs) n)
    pub fits : AreChildRows S rows

  -- the row of a child, and those of all children of a node, or of all nodes of a list
  abbrev pub row_of : Node T → Node T → ChildRow
  row_of parent child = record { child = id_in child; parent = id_in parent }

  abbrev pub rows_under : List (Family T) → Node T → List ChildRow
  rows_under fs n = map (row_of n) (children_at fs (slot_in n))

  abbrev pub rows_below : List (Family T) → List (Node T) → List ChildRow
  rows_below fs list = flat_map (rows_under fs) list

  abbrev pub children_below : List (Family T) → List (Node T) → List (Node T)
  children_below fs list = flat_map (λ n. children_at fs (slot_in n)) list

  -- rows are those of some live nodes: the roots of the first slots, and the children of the first rows
  pub record AreListed (S : State T) (fs : List (Family T)) (slot next : ℕ) (rows : List ChildRow) : Type 0 where
    pub roots : List (Node T)
    pub done : List (Node T)
    pub whole : rows ≡ rows_below fs done
    pub within : next ≤ length rows
    pub live : (k : ℕ) (n : Node T) → slice_get done k ≡ Some n → IsLiveIn S n
    pub counts : (s : ℕ) → count_at s done ≡ count_at s roots + count_at s (take next (children_below fs done))
    pub tops : (s : ℕ) → 0 < count_at s roots → above fs s ≡ None
    pub once : (s : ℕ) → count_at s roots ≤ 1
    pub later : (s : ℕ) → slot ≤ s → count_at s roots ≡ 0
    pub every : (n : Node T) → IsLiveIn S n → above fs (slot_in n) ≡ None → slot_in n < slot
        → 0 < count_at (slot_in n) roots
    pub fits : AreChildRows S rows
