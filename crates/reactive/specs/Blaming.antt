-- Faults that are kept of nodes, which are true of them.
use Rattle.std.specs.Prelude.{◌≡◌, ◌⊎◌, ℕ, List, Option, Some}
use Rattle.dirty_slots.specs.declared.slots.DirtySlots.{DirtySlots}
use Rattle.reactive.specs.declared.blame.Blame.{Blame}
use Rattle.reactive.specs.declared.fault.Fault.{Fault}
use Rattle.reactive.specs.declared.key.Key.{Key}
use Rattle.reactive.specs.declared.links.Web.{Web}
use Rattle.reactive.specs.declared.look.Frame.{Frame}
use Rattle.reactive.specs.Chains.{IsOn}
use Rattle.reactive.specs.Graphs.{GraphState, IsGraphKept, Kind, kind_in, plans_in}
use Rattle.reactive.specs.Hearing.{IsNoShortage, IsTrueOf}
use Rattle.reactive.specs.Meaning.{Graph}
use Rattle.reactive.specs.Plans.{Plan}
use Rattle.reactive.specs.Refreshing.{Blames}
use Rattle.stamped_values.specs.Stamps.{stamped_at}

-- this fault is kept of a node that it was found of, or of one on the path to that
abbrev pub IsAtFault : List Frame → Key → Fault → Blame → Type 0
IsAtFault path top f b = (b.fault ≡ f) × IsNoShortage f × ((b.key ≡ top) ⊎ IsOn path b.key)

module _ {T : Type 0} (G : Graph T) (kind : Key → Kind) where
  -- each kept fault is true of its node
  abbrev pub AreTrue : List (Option Blame) → Type 0
  AreTrue faults = (s : ℕ) (b : Blame) → stamped_at faults s ≡ Some b → IsTrueOf G kind b.key b.fault

  -- a fault is true of the node that was read, of those on the path from it, and of the last
  pub record AreBlamed (start : Key) (path : List Frame) (top : Key) (f : Fault) : Type 0 where
    pub first : Blames G kind start f
    pub others : (k : Key) → IsOn path k → Blames G kind k f
    pub last : Blames G kind top f

-- what holds of a graph, its dirty slots, its links and the kept faults at any time
pub record IsGraphWhole {T R : Type 0} (plan : R → Plan T) (g : GraphState T R) (dirty : DirtySlots) (web : Web)
    (faults : List (Option Blame)) : Type 0 where
  pub kept : IsGraphKept plan g dirty web
  pub blamed : AreTrue (plans_in plan g) (kind_in g) faults
