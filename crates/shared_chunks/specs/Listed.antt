-- A list in chunks, as in contracts.
use Rattle.std.specs.Prelude.{ℕ, ◌≤◌, List, [], ◌∷◌, ◌++◌, vec_capacity}
use Rattle.std.specs.Global.{Vec}
use Rattle.std.specs.Vec.{vec_items}

-- the items in order, and for how many more there is room
pub record Listed (X : Type 0) : Type 0 where
  pub items : List X
  pub room : ℕ

-- the items of these chunks, one chunk after the other
abbrev pub joined_chunks : {X : Type 0} → List (Vec X) → List X
joined_chunks [] = []
joined_chunks (chunk ∷ chunks) = vec_items chunk ++ joined_chunks chunks

-- each of these chunks has room for 1024 items at least
abbrev pub AreLarge : {X : Type 0} → List (Vec X) → Type 0
AreLarge [] = Unit {0}
AreLarge (chunk ∷ chunks) = (1024 ≤ vec_capacity chunk) × AreLarge chunks
