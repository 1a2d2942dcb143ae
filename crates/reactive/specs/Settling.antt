-- What is kept of a node that was found to mean a value, and what that leaves of others.
use Rattle.std.specs.Prelude.{◌≡◌, ◌≢◌, ◌≤◌, ◌⊎◌, ℕ, None, Some}
use Rattle.std.specs.Global.{Vec}
use Rattle.reactive.specs.declared.key.Key.{Key}
use Rattle.reactive.specs.declared.node.Node.{Node}
use Rattle.reactive.specs.Meaning.{Graph, Means}
use Rattle.reactive.specs.Plans.{Asked}
use Rattle.reactive.specs.Links.{Keeps}
use Rattle.reactive.specs.Tables.{Book, Shows, IsStillValid}

module _ {T R : Type 0} where
  -- a node has a cached value and the reads that its rule computed it from, checked now: either the
  -- value that it had, or one that has changed now
  pub record IsNodeSettled (old : Node T R) (v : T) (asked : Vec Key) (now : ℕ) (new : Node T R) : Type 0 where
    pub rule : new.rule ≡ old.rule
    pub value : new.value ≡ Some v
    pub asked_by : new.reads ≡ asked
    pub checked : new.checked ≡ now
    pub changed : (new.changed ≡ now) ⊎ ((new.changed ≡ old.changed) × (old.value ≡ Some v))

-- What a step changes in a book: what was known is known, results that were valid are, and each node is
-- unchanged, or known.
pub record LeavesBook {T R : Type 0} (G : Graph T) (now : ℕ) (old new : Book T R) : Type 0 where
  pub known : (k : Key) (v : T) → Shows old k v → Shows new k v
  pub stand : (since : ℕ) (a : Asked T) → since ≤ now → (since ≡ now → Means G a.key a.value)
      → IsStillValid old.nodes since a → IsStillValid new.nodes since a
  pub same : (k : Key) → (new.nodes k ≡ old.nodes k) ⊎ ((v : T) × Shows new k v)

-- from one book to another it was learned what a memo means, of whose slot nothing was known
pub record IsLearned {T R : Type 0} (old : Book T R) (k : Key) (new : Book T R) : Type 0 where
  pub free : old.known k.id.slot ≡ None
  pub here : new.known k.id.slot ≡ Some k.id.generation
  pub others : (s : ℕ) → s ≢ k.id.slot → new.known s ≡ old.known s

-- from one book to another what was known is known, by the same value
abbrev pub Lasts : {T R : Type 0} → Book T R → Book T R → Type 0
Lasts {T} old new = (k : Key) (v : T) → Shows old k v → Shows new k v

-- from one book to another nothing is lost
pub record IsLeft {T R : Type 0} (old new : Book T R) : Type 0 where
  pub nodes : (k : Key) → new.nodes k ≡ old.nodes k
  pub known : (s : ℕ) → new.known s ≡ old.known s
  pub web : Keeps old.web new.web
