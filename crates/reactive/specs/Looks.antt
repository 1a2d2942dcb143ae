-- What a look at a node finds out.
use Rattle.std.specs.Prelude.{◌≡◌, ◌≢◌, ℕ, Bool, true, List, None, Some, take, slice_get, map as list_map}
use Rattle.std.specs.Vec.{vec_items}
use Rattle.reactive.specs.declared.key.Key.{Key}
use Rattle.reactive.specs.declared.look.Found.{Found}
use Rattle.reactive.specs.declared.look.Found.TheVariants as found
use Rattle.reactive.specs.declared.look.Look.{Look}
use Rattle.reactive.specs.declared.look.Look.TheVariants as look
use Rattle.reactive.specs.declared.look.Step.{Step}
use Rattle.reactive.specs.declared.look.Step.TheVariants as step
use Rattle.reactive.specs.declared.look.Verdict.{Verdict}
use Rattle.reactive.specs.declared.look.Verdict.TheVariants as verdict
use Rattle.reactive.specs.declared.node.Node.{Node}
use Rattle.reactive.specs.Plans.{Asked, Follows, Give}
use Rattle.reactive.specs.Meaning.{GivesNone, Graph, IsMute, Needs, Reaches}
use Rattle.reactive.specs.Chains.{GoesOn}
use Rattle.reactive.specs.Tables.{AreKnown, Book, Shows}

module _ {T R : Type 0} (b : Book T R) where
  -- the read at an index is of that node, and the results before it are right
  pub record IsAsked (answers : List (Asked T)) (k : Key) (place : ℕ) : Type 0 where
    pub answer : Asked T
    pub there : slice_get answers place ≡ Some answer
    pub of : answer.key ≡ k
    pub before : AreKnown b (take place answers)

  abbrev pub Verified : List (Asked T) → Verdict → Type 0
  Verified answers verdict.Same = AreKnown b answers
  Verified answers verdict.Changed = Unit {0}
  Verified answers (verdict.Unknown k place) = IsAsked answers k place
  Verified answers (verdict.Gone k) = (b.nodes k ≡ None) × ((place : ℕ) × IsAsked answers k place)

module _ {T R : Type 0} (G : Graph T) (now : ℕ) (b : Book T R) (k : Key) where
  -- a memo's plan leads to a value by results that are known to be right
  pub record PlanLeadsTo (n : Node T R) (v : T) (reads : List Key) : Type 0 where
    pub rule : R
    pub has : n.rule ≡ Some rule
    pub answers : List (Asked T)
    pub asked : list_map (λ a. a.key) answers ≡ reads
    pub leads : Follows (G k) answers (Give v)
    pub known : AreKnown b answers

  abbrev pub Looked : Look → Type 0
  Looked look.Known = (v : T) × Shows b k v
  Looked look.Right = (n : Node T R) × (b.nodes k ≡ Some n) × ((v : T) × (n.value ≡ Some v)
      × PlanLeadsTo n v (vec_items n.reads))
  Looked look.Stale = (n : Node T R) × (b.nodes k ≡ Some n) × ((rule : R) × (n.rule ≡ Some rule))
  Looked (look.Needs j place) = Needs G k j × GoesOn G now b k (Some place)
  Looked (look.Gone j) = IsMute G k × Reaches G k j × (b.nodes j ≡ None)
  Looked look.NoValue = GivesNone G k

  -- what a run of its rule finds
  abbrev pub RunFinds : Found T → Type 0
  RunFinds (found.Again v) = (n : Node T R) × (b.nodes k ≡ Some n) × (n.value ≢ None) × PlanLeadsTo n v (vec_items n.reads)
  RunFinds (found.New v reads) = (n : Node T R) × (b.nodes k ≡ Some n) × PlanLeadsTo n v (vec_items reads)
  RunFinds (found.Needs j) = Needs G k j
  RunFinds (found.Gone j) = IsMute G k × Reaches G k j × (b.nodes j ≡ None)
  RunFinds found.NoValue = GivesNone G k
  RunFinds found.Full = Unit {0}

  -- what a step at a node comes to
  abbrev pub Stepped : Step → Type 0
  Stepped step.Settled = (v : T) × Shows b k v
  Stepped (step.Needs j place) = Needs G k j × GoesOn G now b k place
  Stepped (step.Gone j) = IsMute G k × Reaches G k j × (b.nodes j ≡ None)
  Stepped step.NoValue = GivesNone G k
  Stepped step.Full = Unit {0}

-- a run came to a value: by the kept questions, if these were asked, or by those that were
abbrev pub IsFoundBy : {T : Type 0} → T → (asked kept : List Key) → Bool → Found T → Type 0
IsFoundBy value asked kept is_kept (found.Again v) = (v ≡ value) × (asked ≡ kept) × (is_kept ≡ true)
IsFoundBy value asked kept is_kept (found.New v reads) = (v ≡ value) × (vec_items reads ≡ asked)
IsFoundBy value asked kept is_kept (found.Needs j) = ⊥
IsFoundBy value asked kept is_kept (found.Gone j) = ⊥
IsFoundBy value asked kept is_kept found.NoValue = ⊥
IsFoundBy value asked kept is_kept found.Full = Unit {0}
