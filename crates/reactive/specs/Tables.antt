-- The nodes of a store as a graph, and what holds of what they keep.
use Rattle.std.specs.Prelude.{◌≡◌, ◌≢◌, ◌≤◌, ℕ, List, [], ◌∷◌, Option, Some, None, ◌⊎◌, map as list_map}
use Rattle.std.specs.Prelude.{Bool, true, is_none, ◌||◌, if◌then◌else◌}
use Rattle.std.specs.List.{Contains}
use Rattle.std.specs.Vec.{vec_items}
use Rattle.generational_core.specs.Seeing.{value_in}
use Rattle.generational_core.specs.State.{State}
use Rattle.generational_core.specs.declared.boxes.GenerationalPointer.{GenerationalPointer}
use Rattle.generational_errors.specs.declared.error.Location.{Location}
use Rattle.reactive.specs.declared.key.Key.{Key}
use Rattle.reactive.specs.declared.links.Links.{Links}
use Rattle.reactive.specs.declared.links.Mark.{Mark}
use Rattle.reactive.specs.declared.links.Web.{Web}
use Rattle.reactive.specs.Links.{AreNumbered, IsSlotLinked, known_at, knows, owner_at, Owns}
use Rattle.reactive.specs.declared.node.Node.{Node}
use Rattle.reactive.specs.Plans.{Plan, Give, Stop, Asked, Follows}
use Rattle.reactive.specs.Meaning.{Graph, AllMean}

-- which node each key has, if any
abbrev pub NodeTable : Type 0 → Type 0 → Type 0
NodeTable T R = Key → Option (Node T R)

-- the box of a key; what it refers to doesn't depend on where it was made
abbrev pub no_location : Location
no_location = record { file = record { ref_ptr = (0, 0); now = [] }; line = 0; column = 0 }

abbrev pub key_pointer : Key → GenerationalPointer
key_pointer k = record { id = k.id; created_at = no_location }

-- these reads, with their nodes' values
abbrev pub answered : {T : Type 0} → Key → Option T → List (Asked T) → List (Asked T)
answered k None rest = rest
answered k (Some v) rest = record { key = k; value = v } ∷ rest

abbrev pub asked_of : {T : Type 0} → (Key → Option T) → List Key → List (Asked T)
asked_of shown [] = []
asked_of shown (k ∷ rest) = answered k (shown k) (asked_of shown rest)

-- which node each key has, of which memos it is known what they mean, and which nodes read which
pub record Book (T R : Type 0) : Type 0 where
  pub nodes : NodeTable T R
  pub known : ℕ → Option ℕ
  pub web : Web

module _ {T R : Type 0} where
  abbrev pub nodes_in : State (Node T R) → NodeTable T R
  nodes_in S k = value_in S (key_pointer k)

  abbrev pub book_by : State (Node T R) → List Mark → Web → Book T R
  book_by S known web = record { nodes = nodes_in S; known = known_at known; web = web }

  -- the book of a store with these links
  abbrev pub book : State (Node T R) → Links → Book T R
  book S links = book_by S (vec_items links.marks.known) links.web

  -- from one table to another a key has another node, and no other key has
  pub record IsPut (old : NodeTable T R) (k : Key) (n : Node T R) (new : NodeTable T R) : Type 0 where
    pub here : new k ≡ Some n
    pub others : (j : Key) → j ≢ k → new j ≡ old j

  -- ---- what is known

  -- a node has a value, and is a source or surely means it
  abbrev pub IsNodeKnown : Bool → Node T R → T → Type 0
  IsNodeKnown sure n v = (n.value ≡ Some v) × ((n.rule ≡ None) ⊎ (sure ≡ true))

  -- a key's node is so
  abbrev pub Shows : Book T R → Key → T → Type 0
  Shows b k v = (n : Node T R) × (b.nodes k ≡ Some n) × IsNodeKnown (knows b.known k) n v

  -- each read returned what its node is known to mean
  abbrev pub AreKnown : Book T R → List (Asked T) → Type 0
  AreKnown b [] = Unit {0}
  AreKnown b (a ∷ rest) = Shows b a.key a.value × AreKnown b rest

  -- the value of a node, if it is so
  abbrev pub known_by : Bool → Option (Node T R) → Option T
  known_by sure None = None
  known_by sure (Some n) = if is_none n.rule || sure then n.value else None

  -- that of a key's node
  abbrev pub shown_from : NodeTable T R → List Mark → Key → Option T
  shown_from nodes known k = known_by (knows (known_at known) k) (nodes k)

  abbrev pub known_of : Book T R → Key → Option T
  known_of b k = known_by (knows b.known k) (b.nodes k)

  -- ---- what is kept

  -- a result is valid: its node still has that value, if that hasn't changed since a revision
  abbrev pub IsStillValid : NodeTable T R → ℕ → Asked T → Type 0
  IsStillValid nodes since a =
      (n : Node T R) → nodes a.key ≡ Some n → n.changed ≤ since → n.value ≡ Some a.value

  abbrev pub AllStand : NodeTable T R → ℕ → List (Asked T) → Type 0
  AllStand nodes since [] = Unit {0}
  AllStand nodes since (a ∷ rest) = IsStillValid nodes since a × AllStand nodes since rest

  -- What is cached of a node is a walk of its plan: the results of its reads lead to its value. They are
  -- valid since the node was checked, and are what those nodes mean if that was in this revision.
  pub record IsWalk (G : Graph T) (now : ℕ) (nodes : NodeTable T R) (k : Key) (n : Node T R) (v : T) : Type 0 where
    pub answers : List (Asked T)
    pub asked : list_map (λ a. a.key) answers ≡ vec_items n.reads
    pub leads : Follows (G k) answers (Give v)
    pub stand : AllStand nodes n.checked answers
    pub fresh : n.checked ≡ now → AllMean G answers

  -- What is known of a memo: the results of its reads, which are what those nodes mean and are known to,
  -- lead to its value.
  pub record IsMemoKnown (G : Graph T) (b : Book T R) (k : Key) (n : Node T R) (v : T) : Type 0 where
    pub answers : List (Asked T)
    pub asked : list_map (λ a. a.key) answers ≡ vec_items n.reads
    pub leads : Follows (G k) answers (Give v)
    pub mean : AllMean G answers
    pub known : AreKnown b answers

  -- Each node whose links are its own is linked to what it reads, and a memo with a cached value to
  -- nothing else. The links of known memos are their own.
  pub record AreLinked (b : Book T R) : Type 0 where
    pub linked : (k : Key) (n : Node T R) → b.nodes k ≡ Some n → Owns b.web k
        → (a : Key) → Contains (vec_items n.reads) a → IsSlotLinked b.web k.id.slot a.id.slot
    pub exact : (k : Key) (n : Node T R) → b.nodes k ≡ Some n → n.rule ≢ None → n.value ≢ None → Owns b.web k
        → (s : ℕ) → IsSlotLinked b.web k.id.slot s → (a : Key) × Contains (vec_items n.reads) a × (a.id.slot ≡ s)
    pub owned : (s g : ℕ) → b.known s ≡ Some g → (owner_at (vec_items b.web.owners) s).generation ≡ Some g
    -- what is known of a slot is known of its node, which is a memo with a cached value
    pub whole : (k : Key) (n : Node T R) (g : ℕ) → b.nodes k ≡ Some n → b.known k.id.slot ≡ Some g
        → (k.id.generation ≡ g) × (n.rule ≢ None) × (n.value ≢ None)
    pub numbered : AreNumbered b.web

module _ {T R : Type 0} (plan : R → Plan T) where
  -- a memo's plan is its rule's, and a source's yields its value
  abbrev pub plan_by : Option R → Option T → Plan T
  plan_by (Some r) kept = plan r
  plan_by None (Some v) = Give v
  plan_by None None = Stop

  abbrev pub plan_at : Option (Node T R) → Plan T
  plan_at None = Stop
  plan_at (Some n) = plan_by n.rule n.value

  abbrev pub graph_of : NodeTable T R → Graph T
  graph_of nodes k = plan_at (nodes k)

  -- A book is sound for a graph: it has this graph's plans, each node has a cached walk of its plan,
  -- what is known is true, and nothing was changed or checked later than now.
  pub record IsSound (G : Graph T) (now : ℕ) (b : Book T R) : Type 0 where
    pub same : (k : Key) → graph_of b.nodes k ≡ G k
    pub walks : (k : Key) (n : Node T R) → b.nodes k ≡ Some n
        → (v : T) → n.value ≡ Some v → IsWalk G now b.nodes k n v
    pub held : (k : Key) (n : Node T R) → b.nodes k ≡ Some n → knows b.known k ≡ true
        → (v : T) → n.value ≡ Some v → IsMemoKnown G b k n v
    pub checked : (k : Key) (n : Node T R) → b.nodes k ≡ Some n → n.checked ≤ now
    pub changed : (k : Key) (n : Node T R) → b.nodes k ≡ Some n → n.changed ≤ now
    pub links : AreLinked b
