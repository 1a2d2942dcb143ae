-- Rows of an outline: nodes, each with how many steps it is below the first.
use Rattle.std.specs.Prelude.{◌<◌, ◌+◌, ◌++◌, ℕ, suc, zero, List, [], ◌∷◌, Option, None, Some, length, map, slice_get}
use Rattle.scene_tree.specs.declared.links.Link.{Link}
use Rattle.scene_tree.specs.Chains.{after_tied, chain, tie_of}
use Rattle.scene_tree.specs.Families.{Family, IsUnder, above, children_at, families}
use Rattle.handles.specs.Handles.{slot_in}
use Rattle.scene_tree.specs.Nodes.{Node}

module _ {T : Type 0} where
  -- nodes at a depth
  abbrev pub rows_at : ℕ → List (Node T) → List (ℕ × Node T)
  rows_at depth list = map (λ n. (depth, n)) list

  -- what is read of rows that wait, so many at most: the first, and then those of its children, one step
  -- deeper, and the others that wait
  unfoldable pub rows : List (Family T) → ℕ → List (ℕ × Node T) → List (ℕ × Node T)
  rows fs zero list = []
  rows fs (suc limit) [] = []
  rows fs (suc limit) (r ∷ list) =
      r ∷ rows fs limit (rows_at (r.0 + 1) (children_at fs (slot_in r.1)) ++ list)

  -- the rows that follow a slot's node and all below it: those of its siblings behind it, then of its
  -- parent's, and so on, as far as it is below the first
  abbrev pub behind : List (Link T) → ℕ → Option ℕ → List (ℕ × Node T)
  behind links depth None = []
  behind links zero (Some slot) = []
  behind links (suc depth) (Some slot) =
      rows_at (suc depth) (chain links (length links) (after_tied (tie_of (slice_get links slot))))
      ++ behind links depth (above (families links) slot)

  -- the rows that wait: the next one, and those that follow it
  abbrev pub waiting : List (Link T) → Option (ℕ × Node T) → List (ℕ × Node T)
  waiting links None = []
  waiting links (Some row) = row ∷ behind links row.0 (Some (slot_in row.1))

  -- a row is of a slot that there is, so many steps below some other
  abbrev pub IsRowPlaced : List (Link T) → ℕ → ℕ → Type 0
  IsRowPlaced links depth slot =
      (top : ℕ) × IsUnder (families links) top depth slot × (slot < length links)

  abbrev pub IsRow : List (Link T) → Option (ℕ × Node T) → Type 0
  IsRow links None = Unit {0}
  IsRow links (Some row) = IsRowPlaced links row.0 (slot_in row.1)
