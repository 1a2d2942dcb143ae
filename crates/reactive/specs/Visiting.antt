-- The slots that are to be visited while readers are forgotten.
use Rattle.std.specs.Prelude.{◌≡◌, ◌⊎◌, ◌<◌, ◌≤◌, ◌+◌, ℕ, true, List, [], ◌∷◌, None, Some, get_or, is_some, length, slice_set}
use Rattle.std.specs.List.{Contains, count_by}
use Rattle.std.specs.Vec.{vec_items}
use Rattle.reactive.specs.declared.links.Edge.{Edge}
use Rattle.reactive.specs.declared.links.Mark.{Mark}
use Rattle.reactive.specs.declared.links.Mark.TheVariants as mark
use Rattle.reactive.specs.declared.links.Marks.{Marks}
use Rattle.reactive.specs.declared.links.Web.{Web}
use Rattle.reactive.specs.Links.{IsSlotLinked, generation_of, is_current, known_at, unknown}

-- of how many slots something is known
abbrev pub count_known : List Mark → ℕ
count_known marks = count_by (λ m. is_some (generation_of m)) marks

-- the slot that is visited after one of which nothing is known
abbrev pub next_of : Mark → ℕ
next_of (mark.Known g) = 0
next_of (mark.Unknown next) = next

-- those of which something is known and those that are to be visited are no more than there are slots
abbrev pub HaveRoom : Marks → Type 0
HaveRoom m = count_known (vec_items m.known) + m.left ≤ length (vec_items m.known)

-- from a slot on, the marks list these, of which nothing is known
abbrev pub LeadThrough : List Mark → ℕ → List ℕ → Type 0
LeadThrough marks first [] = Unit {0}
LeadThrough marks first (s ∷ rest) = (first ≡ s) × (s < length marks) × (known_at marks s ≡ None)
    × LeadThrough marks (next_of (get_or marks s unknown)) rest

-- these are to be visited
abbrev pub AreToVisit : Marks → List ℕ → Type 0
AreToVisit m list = (m.left ≡ length list) × LeadThrough (vec_items m.known) m.first list

-- From one state to another an edge was followed: it is old, or nothing was known of its slot, or that was
-- forgotten.
abbrev pub IsDropped : Web → Edge → Marks → Marks → Type 0
IsDropped w e old new = ((new ≡ old) × (is_current (vec_items w.owners) e ≡ true → known_at (vec_items old.known) e.slot ≡ None))
    ⊎ ((is_current (vec_items w.owners) e ≡ true) × ((g : ℕ) × (known_at (vec_items old.known) e.slot ≡ Some g)
    × (vec_items new.known ≡ slice_set (vec_items old.known) e.slot (mark.Unknown old.first))
    × (new.first ≡ e.slot) × (new.left ≡ old.left + 1)))

-- From one state to another the readers of a slot were forgotten, and are to be visited with those before.
pub record Drops (w : Web) (old : List Mark) (before : List ℕ) (slot : ℕ) (new : List Mark) (list : List ℕ) : Type 0 where
  pub fewer : (s g : ℕ) → known_at new s ≡ Some g → known_at old s ≡ Some g
  pub readers : (r g : ℕ) → known_at new r ≡ Some g → IsSlotLinked w r slot → ⊥
  pub rest : (s : ℕ) → (known_at new s ≡ known_at old s) ⊎ Contains list s
  pub todo : (s : ℕ) → Contains before s → Contains list s
  pub only : (s : ℕ) → Contains list s → Contains before s
      ⊎ ((g : ℕ) × (known_at old s ≡ Some g) × IsSlotLinked w s slot)
