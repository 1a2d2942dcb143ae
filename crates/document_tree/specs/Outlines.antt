-- Outlines: the places in the order in which a document is read.
use Rattle.std.specs.Prelude.{◌≡◌, ◌+◌, ℕ, zero, suc, List, [], ◌∷◌, ◌++◌, map, unwrap_or}
use Rattle.std.specs.List.{Contains}
use Rattle.document_tree.specs.Documents.{children_shown, DocumentState, Place, shown_in}

module _ {T : Type 0} where
  -- the children of a place's part, or none if the place was removed
  abbrev pub children_in : DocumentState T → Place → List Place
  children_in D p = unwrap_or (children_shown (shown_in D p)) []

  -- what is read of the places that wait, up to a limit: the first of them, and then its children
  -- and the others that wait
  unfoldable pub outline_places : DocumentState T → ℕ → List Place → List Place
  outline_places D zero waiting = []
  outline_places D (suc limit) [] = []
  outline_places D (suc limit) (p ∷ waiting) = p ∷ outline_places D limit (children_in D p ++ waiting)

  -- the same of places that wait each with a depth: its children wait one step deeper
  unfoldable pub deep_outline_of : DocumentState T → ℕ → List (ℕ × Place) → List (ℕ × Place)
  deep_outline_of D zero waiting = []
  deep_outline_of D (suc limit) [] = []
  deep_outline_of D (suc limit) (p ∷ waiting) =
      p ∷ deep_outline_of D limit (map (λ q. (p.0 + 1, q)) (children_in D p.1) ++ waiting)

  -- a place is one that stands so many steps below another; at any number of steps
  abbrev pub IsBelowBy : DocumentState T → ℕ → Place → Place → Type 0
  IsBelowBy D zero top q = top ≡ q
  IsBelowBy D (suc n) top q = (p : Place) × IsBelowBy D n top p × Contains (children_in D p) q

  abbrev pub IsBelowPlace : DocumentState T → Place → Place → Type 0
  IsBelowPlace D top q = (n : ℕ) × IsBelowBy D n top q
