-- What holds of a tree's store and of its families.
use Rattle.std.specs.FinMap as map
use Rattle.std.specs.Prelude.{◌+◌, ◌≡◌, ◌<◌, ℕ, List, None, Some, true, is_some, length, slice_get}
use Rattle.generational_core.specs.Names.{Name}
use Rattle.generational_core.specs.Seeing.{value_in}
use Rattle.generational_core.specs.Slots.{slots}
use Rattle.generational_core.specs.State.{State, IsGiven}
use Rattle.generational_core.specs.Steps.{Meets}
use Rattle.generational_core.specs.Machine.Action.{Make}
use Rattle.generational_core.specs.Machine.Answer.{Made}
use Rattle.generational_core.specs.declared.boxes.GenerationalPointer.{GenerationalPointer}
use Rattle.generational_errors.specs.declared.error.Location.{Location}
use Rattle.generational_laws.specs.PlainStores.{IsSimple}
use Rattle.scene_tree.specs.declared.links.Link.{Link}
use Rattle.scene_tree.specs.Chains.{noted}
use Rattle.scene_tree.specs.Families.{Family, IsForest, children_at, parent_at}
use Rattle.handles.specs.Handles.{id_in, IsSame, pointer_in, slot_in}
use Rattle.scene_tree.specs.Nodes.{Node, times}

module _ {T : Type 0} where
  -- a node is live in a state
  abbrev pub IsLiveIn : State T → Node T → Type 0
  IsLiveIn S n = is_some (value_in S (pointer_in n)) ≡ true

  -- each live node is noted at its slot, and what is noted at a slot is of that slot
  pub record AreNodesNoted (S : State T) (links : List (Link T)) : Type 0 where
    pub live : (n : Node T) → IsLiveIn S n
        → (h : Node T) × (noted links (slot_in n) ≡ Some h) × IsSame h n
    pub placed : (slot : ℕ) (h : Node T) → noted links slot ≡ Some h → slot_in h ≡ slot

  -- a node's cell was made with a value
  abbrev pub HasMade : State T → T → Location → Node T → State T → Type 0
  HasMade old v here n new = (b : GenerationalPointer) × Meets old (Make None v here) (Made b) new
      × (id_in n ≡ b.id)

  -- from one state to another the nodes of a list are removed, and each other node has the same value
  pub record HasLostNodes (old : State T) (gone : List (Node T)) (new : State T) : Type 0 where
    pub simple : IsSimple new
    pub same : slots new ≡ slots old
    pub number : new.number ≡ old.number
    pub count : map.len new.cells + length gone ≡ map.len old.cells
    pub given : (n : Name) → IsGiven old n → IsGiven new n
    pub ended : (n : Node T) → 0 < times n gone → value_in new (pointer_in n) ≡ None
    pub others : (n : Node T) → times n gone ≡ 0
        → value_in new (pointer_in n) ≡ value_in old (pointer_in n)

  -- no borrow stands, each slot has one live node at most, each slot has a family, the families are
  -- those of a forest, and all that they name is live
  pub record IsTreeKept (S : State T) (fs : List (Family T)) : Type 0 where
    pub simple : IsSimple S
    pub whole : length fs ≡ slots S
    pub forest : IsForest fs
    pub parents : (slot : ℕ) (up : Node T) → parent_at fs slot ≡ Some up → IsLiveIn S up
    pub children : (slot k : ℕ) (c : Node T) → slice_get (children_at fs slot) k ≡ Some c
        → IsLiveIn S c
