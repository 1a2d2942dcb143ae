-- Rows of children and their parents, by ids.
use Rattle.std.specs.Prelude.{◌≡◌, ◌≢◌, ◌&&◌, ℕ, Bool, List, [], ◌∷◌, Option, None, Some, true}
use Rattle.std.specs.Prelude.{if◌then◌else◌, nat_eq, slice_get, take}
use Rattle.generational_core.specs.State.{State}
use Rattle.generational_core.specs.declared.boxes.GenerationalBoxId.{GenerationalBoxId}
use Rattle.handles.specs.Handles.{id_in}
use Rattle.live_cells.specs.Cells.{IsCellFault}
use Rattle.scene_tree.specs.Keeping.{IsLiveIn}
use Rattle.scene_tree.specs.Nodes.{Node}
use Rattle.scene_tree.specs.declared.parts.ChildRow.{ChildRow}
use Rattle.scene_tree.specs.declared.parts.PartsFault.{PartsFault}
use Rattle.scene_tree.specs.declared.parts.PartsFault.TheVariants.{Cell, Stale, Order}

abbrev pub is_id : GenerationalBoxId → GenerationalBoxId → Bool
is_id a b = nat_eq a.store b.store && (nat_eq a.slot b.slot && nat_eq a.generation b.generation)

-- the parent that rows list for a node: that of its first row
abbrev pub parent_told : List ChildRow → GenerationalBoxId → Option GenerationalBoxId
parent_told [] id = None
parent_told (r ∷ rows) id = if is_id r.child id then Some r.parent else parent_told rows id

-- the children that rows list for a node, in order
abbrev pub children_told : List ChildRow → GenerationalBoxId → List GenerationalBoxId
children_told [] id = []
children_told (r ∷ rows) id =
    if is_id r.parent id then r.child ∷ children_told rows id else children_told rows id

-- a row's child is in no earlier row, and isn't its own parent
pub record IsNewRow (earlier : List ChildRow) (r : ChildRow) : Type 0 where
  pub root : parent_told earlier r.child ≡ None
  pub childless : children_told earlier r.child ≡ []
  pub apart : r.parent ≢ r.child

module _ {T : Type 0} where
  -- an id is a live node's
  abbrev pub IsLiveId : State T → GenerationalBoxId → Type 0
  IsLiveId S id = (n : Node T) × (id_in n ≡ id) × IsLiveIn S n

  -- rows are those of a tree: each has ids of live nodes, and comes before those of its child's children
  pub record AreChildRows (S : State T) (rows : List ChildRow) : Type 0 where
    pub children : (row : ℕ) (r : ChildRow) → slice_get rows row ≡ Some r → IsLiveId S r.child
    pub parents : (row : ℕ) (r : ChildRow) → slice_get rows row ≡ Some r → IsLiveId S r.parent
    pub ordered : (row : ℕ) (r : ChildRow) → slice_get rows row ≡ Some r → IsNewRow (take row rows) r

  -- the fault is true of a store and rows
  abbrev pub IsTreeFault : State T → List ChildRow → PartsFault → Type 0
  IsTreeFault S rows (Cell fault) = IsCellFault S fault
  IsTreeFault S rows (Stale row) = (r : ChildRow) × (slice_get rows row ≡ Some r)
      × (IsLiveId S r.child × IsLiveId S r.parent → ⊥)
  IsTreeFault S rows (Order row) = (r : ChildRow) × (slice_get rows row ≡ Some r)
      × (IsNewRow (take row rows) r → ⊥)
