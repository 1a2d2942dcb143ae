-- Which nodes read which, and of which memos it is known what they mean, by slots.
use Rattle.std.specs.Prelude.{◌≡◌, ◌≢◌, ◌<◌, ℕ, Bool, false, ◌&&◌, nat_eq, List, [], Option, None, Some, get_or, slice_get}
use Rattle.std.specs.List.{Contains}
use Rattle.smallvec.specs.SmallVec.{SmallVec}
use Rattle.std.specs.Vec.{vec_items}
use Rattle.reactive.specs.declared.key.Key.{Key}
use Rattle.reactive.specs.declared.links.Edge.{Edge}
use Rattle.reactive.specs.declared.links.Mark.{Mark}
use Rattle.reactive.specs.declared.links.Mark.TheVariants as mark
use Rattle.reactive.specs.declared.links.Owner.{Owner}
use Rattle.reactive.specs.declared.links.Web.{Web}

-- ---- links

-- a slot's links are no node's
abbrev pub nobody : Owner
nobody = record { generation = None; number = 0 }

abbrev pub owner_at : List Owner → ℕ → Owner
owner_at owners s = get_or owners s nobody

abbrev pub edges_by : Option (SmallVec Edge) → List Edge
edges_by None = []
edges_by (Some edges) = edges.items

-- the edges of a slot's readers
abbrev pub edges_at : Web → ℕ → List Edge
edges_at w s = edges_by (slice_get (vec_items w.readers) s)

-- an edge isn't old
abbrev pub is_current : List Owner → Edge → Bool
is_current owners e = nat_eq (owner_at owners e.slot).number e.number

-- two edges are one
abbrev pub is_same : Edge → Edge → Bool
is_same e f = nat_eq e.slot f.slot && nat_eq e.number f.number

-- a slot is linked to another, which its node reads
abbrev pub IsSlotLinked : Web → ℕ → ℕ → Type 0
IsSlotLinked w r s = Contains (edges_at w s) (record { slot = r; number = (owner_at (vec_items w.owners) r).number })

-- the links of its slot are a node's
abbrev pub Owns : Web → Key → Type 0
Owns w k = (owner_at (vec_items w.owners) k.id.slot).generation ≡ Some k.id.generation

-- the links of each slot, and each edge, have a number below the next
pub record AreNumbered (w : Web) : Type 0 where
  pub owners : (s : ℕ) → (owner_at (vec_items w.owners) s).number < w.number
  pub edges : (s : ℕ) (e : Edge) → Contains (edges_at w s) e → e.number < w.number

-- from one web to another no link was lost or made
pub record Keeps (old new : Web) : Type 0 where
  pub owners : (s : ℕ) → owner_at (vec_items new.owners) s ≡ owner_at (vec_items old.owners) s
  pub links : (r s : ℕ) → IsSlotLinked old r s → IsSlotLinked new r s
  pub only : AreNumbered old → (r s : ℕ) → IsSlotLinked new r s → IsSlotLinked old r s
  pub numbered : AreNumbered old → AreNumbered new

-- from one web to another a node was linked to those that it reads and no others, and no link of another
-- slot was lost or made
pub record IsRelinked (old : Web) (k : Key) (reads : List Key) (new : Web) : Type 0 where
  pub owned : Owns new k
  pub linked : (a : Key) → Contains reads a → IsSlotLinked new k.id.slot a.id.slot
  pub exact : AreNumbered old → (s : ℕ) → IsSlotLinked new k.id.slot s → (a : Key) × Contains reads a × (a.id.slot ≡ s)
  pub owners : (s : ℕ) → s ≢ k.id.slot → owner_at (vec_items new.owners) s ≡ owner_at (vec_items old.owners) s
  pub links : (r s : ℕ) → r ≢ k.id.slot → IsSlotLinked old r s → IsSlotLinked new r s
  pub only : AreNumbered old → (r s : ℕ) → r ≢ k.id.slot → IsSlotLinked new r s → IsSlotLinked old r s
  pub numbered : AreNumbered old → AreNumbered new

-- ---- marks

-- of a slot nothing is known
abbrev pub unknown : Mark
unknown = mark.Unknown 0

abbrev pub generation_of : Mark → Option ℕ
generation_of (mark.Known g) = Some g
generation_of (mark.Unknown next) = None

-- the generation of a slot's memo, if it is known what that means
abbrev pub known_at : List Mark → ℕ → Option ℕ
known_at known s = generation_of (get_or known s unknown)

abbrev pub holds : Option ℕ → ℕ → Bool
holds None g = false
holds (Some h) g = nat_eq h g

-- it is known what a memo means, by the generations that are known of slots
abbrev pub knows : (ℕ → Option ℕ) → Key → Bool
knows known k = holds (known k.id.slot) k.id.generation

-- a slot comes to another by links of slots of which something is known
pub data Leans (w : Web) (known : ℕ → Option ℕ) : ℕ → ℕ → Type 0 where
  leans_itself : (s : ℕ) → Leans w known s s
  leans_by : (r s t g : ℕ) → known r ≡ Some g → IsSlotLinked w r s → Leans w known s t → Leans w known r t

-- From one state to another a slot was forgotten: each memo that is still known reads only what is
-- unchanged.
pub record HasForgotten (w : Web) (old : List Mark) (slot : ℕ) (new : List Mark) : Type 0 where
  pub fewer : (s g : ℕ) → known_at new s ≡ Some g → known_at old s ≡ Some g
  pub here : known_at new slot ≡ None
  pub others : (r s g : ℕ) → known_at new r ≡ Some g → IsSlotLinked w r s
      → (s ≢ slot) × (known_at new s ≡ known_at old s)
