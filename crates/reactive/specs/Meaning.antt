-- What a node means in a graph, whatever is kept of it.
use Rattle.std.specs.Prelude.{List, [], ◌∷◌, Option, None, Some}
use Rattle.reactive.specs.declared.key.Key.{Key}
use Rattle.reactive.specs.Plans.{Plan, Give, Stop, Ask, Asked, Follows}

-- A graph has a plan for each node: a source's yields its value, a memo's is its rule's, and that of a
-- removed node fails.
abbrev pub Graph : Type 0 → Type 0
Graph T = Key → Plan T

-- A plan yields a value in a graph: at once, or by what the node that it reads yields there.
pub data Yields {T : Type 0} (G : Graph T) : Plan T → T → Type 0 where
  gives : (v : T) → Yields G (Give v) v
  goes_on : (k : Key) (next : T → Plan T) (a v : T)
      → Yields G (G k) a → Yields G (next a) v → Yields G (Ask k next) v

module _ {T : Type 0} (G : Graph T) where
  -- a node means what its plan yields
  abbrev pub Means : Key → T → Type 0
  Means k v = Yields G (G k) v

  -- a node means nothing
  abbrev pub IsMute : Key → Type 0
  IsMute k = (v : T) → Means k v → ⊥

  -- each read returned what its node means
  abbrev pub AllMean : List (Asked T) → Type 0
  AllMean [] = Unit {0}
  AllMean (a ∷ rest) = Means a.key a.value × AllMean rest

  -- a node needs another: it reads it, after reads whose results are what those nodes mean
  abbrev pub Needs : Key → Key → Type 0
  Needs j k = (answers : List (Asked T)) × (next : T → Plan T)
      × AllMean answers × Follows (G j) answers (Ask k next)

-- a node comes to another by what it needs, in any number of steps
pub data Reaches {T : Type 0} (G : Graph T) : Key → Key → Type 0 where
  arrives : (k : Key) → Reaches G k k
  comes_by : (j k l : Key) → Needs G j k → Reaches G k l → Reaches G j l

module _ {T : Type 0} (G : Graph T) where
  abbrev pub NeedsItself : Key → Type 0
  NeedsItself j = (k : Key) × Needs G j k × Reaches G k j

  -- a node's rule yields no value, by what the nodes that it reads mean
  abbrev pub GivesNone : Key → Type 0
  GivesNone j = (answers : List (Asked T)) × AllMean G answers × Follows (G j) answers Stop

-- how a plan that reads a node continues, if that is a source
abbrev pub value_from : {T : Type 0} → Plan T → (T → Option T) → Option T
value_from (Give a) goes = goes a
value_from Stop goes = None
value_from (Ask k next) goes = None

-- what a plan comes to by the values of sources, if it asks for nothing else
abbrev pub plan_value : {T : Type 0} → Graph T → Plan T → Option T
plan_value G (Give v) = Some v
plan_value G Stop = None
plan_value G (Ask k next) = value_from (G k) (λ a. plan_value G (next a))
