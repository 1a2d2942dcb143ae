-- The model of a graph.
use Rattle.std.specs.Prelude.{◌≡◌, ◌≢◌, ◌+◌, ◌^◌, ℕ, Bool, false, true, List, Option, None, Some}
use Rattle.generational_core.specs.State.{State}
use Rattle.generational_errors.specs.declared.error.StoreError.TheVariants.{NumbersExhausted, OutOfMemory}
use Rattle.generational_laws.specs.PlainStores.{IsSimple}
use Rattle.reactive.specs.declared.effects.Effect.{Effect}
use Rattle.reactive.specs.declared.fault.Fault.{Fault}
use Rattle.reactive.specs.declared.fault.Fault.TheVariants as fault
use Rattle.dirty_slots.specs.declared.slots.DirtySlots.{DirtySlots}
use Rattle.reactive.specs.declared.key.Key.{Key}
use Rattle.reactive.specs.declared.links.Mark.{Mark}
use Rattle.reactive.specs.declared.links.Web.{Web}
use Rattle.reactive.specs.declared.node.Node.{Node}
use Rattle.reactive.specs.Watching.{AreHeard}
use Rattle.reactive.specs.Meaning.{Graph}
use Rattle.reactive.specs.Plans.{Plan}
use Rattle.reactive.specs.Tables.{IsSound, NodeTable, book_by, graph_of, nodes_in, shown_from}

-- the state of the store, the revision, and of each slot what is known of it, and its effect
pub record GraphState (T R : Type 0) : Type 0 where
  pub state : State (Node T R)
  pub revision : ℕ
  pub known : List Mark
  pub effects : List (Option (Effect T))

-- what a key is of: no node that lives, a source or a memo
pub data Kind : Type 0 where
  NoNode : Kind
  Source : Kind
  Memo : Kind

abbrev pub kind_by_rule : {R : Type 0} → Option R → Kind
kind_by_rule None = Source
kind_by_rule (Some r) = Memo

abbrev pub lives : Kind → Bool
lives NoNode = false
lives Source = true
lives Memo = true

-- why a node isn't given a rule, by the kinds of nodes and the revision
abbrev pub IsRuleless : (Key → Kind) → ℕ → Key → Fault → Type 0
IsRuleless kind revision k (fault.Gone j) = (j ≡ k) × (kind k ≡ NoNode)
IsRuleless kind revision k (fault.Cycle j) = ⊥
IsRuleless kind revision k (fault.NoValue j) = ⊥
IsRuleless kind revision k (fault.NoSource j) = ⊥
IsRuleless kind revision k (fault.Store e) = (e ≡ NumbersExhausted) × (revision + 1 ≡ 2 ^ 64)

module _ {T R : Type 0} where
  abbrev pub kind_by : Option (Node T R) → Kind
  kind_by None = NoNode
  kind_by (Some n) = kind_by_rule n.rule

  abbrev pub kinds_of : NodeTable T R → Key → Kind
  kinds_of nodes k = kind_by (nodes k)

  abbrev pub kind_in : GraphState T R → Key → Kind
  kind_in g k = kind_by (nodes_in g.state k)

  -- from one graph to another a key is of this kind, and each other of the kind that it was
  pub record HasKind (old : GraphState T R) (k : Key) (kind : Kind) (new : GraphState T R) : Type 0 where
    pub here : kind_in new k ≡ kind
    pub others : (j : Key) → j ≢ k → kind_in new j ≡ kind_in old j

  -- no revision is left
  abbrev pub IsLast : GraphState T R → Type 0
  IsLast g = g.revision + 1 ≡ 2 ^ 64

  -- from one graph to another no node has changed, nor what is known
  abbrev pub HasSameNodes : GraphState T R → GraphState T R → Type 0
  HasSameNodes old new = (new.state ≡ old.state) × (new.revision ≡ old.revision) × (new.known ≡ old.known)

  -- why a node isn't watched
  abbrev pub IsUnwatched : GraphState T R → Key → Fault → Type 0
  IsUnwatched g k (fault.Gone j) = (j ≡ k) × (kind_in g k ≡ NoNode)
  IsUnwatched g k (fault.Cycle j) = ⊥
  IsUnwatched g k (fault.NoValue j) = ⊥
  IsUnwatched g k (fault.NoSource j) = ⊥
  IsUnwatched g k (fault.Store e) = e ≡ OutOfMemory

  -- why a node isn't given a rule
  abbrev pub IsUnruled : GraphState T R → Key → Fault → Type 0
  IsUnruled g = IsRuleless (kind_in g) g.revision

  -- why a source isn't set
  abbrev pub IsUnset : GraphState T R → Key → Fault → Type 0
  IsUnset g k (fault.Gone j) = (j ≡ k) × (kind_in g k ≡ NoNode)
  IsUnset g k (fault.Cycle j) = ⊥
  IsUnset g k (fault.NoValue j) = ⊥
  IsUnset g k (fault.NoSource j) = (j ≡ k) × (kind_in g k ≡ Memo)
  IsUnset g k (fault.Store e) = (e ≡ NumbersExhausted) × (kind_in g k ≡ Source) × IsLast g

  -- what is known of a node's value without asking further
  abbrev pub shown_in : GraphState T R → Key → Option T
  shown_in g = shown_from (nodes_in g.state) g.known

module _ {T R : Type 0} (plan : R → Plan T) where
  -- the plan of each node
  abbrev pub plans_in : GraphState T R → Graph T
  plans_in g = graph_of plan (nodes_in g.state)

  -- from one graph to another a node has this plan, and each other has the plan that it had
  pub record HasPlan (old : GraphState T R) (k : Key) (p : Plan T) (new : GraphState T R) : Type 0 where
    pub here : plans_in new k ≡ p
    pub others : (j : Key) → j ≢ k → plans_in new j ≡ plans_in old j

  -- what holds of a graph, its dirty slots and its links at any time
  pub record IsGraphKept (g : GraphState T R) (dirty : DirtySlots) (web : Web) : Type 0 where
    pub simple : IsSimple g.state
    pub sound : IsSound plan (plans_in g) g.revision (book_by g.state g.known web)
    pub heard : AreHeard (book_by g.state g.known web) g.effects dirty
