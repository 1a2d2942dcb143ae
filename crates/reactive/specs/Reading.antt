-- What a node's value came from.
use Rattle.std.specs.Prelude.{◌≡◌, List, map as list_map}
use Rattle.reactive.specs.declared.key.Key.{Key}
use Rattle.reactive.specs.Meaning.{AllMean, Graph}
use Rattle.reactive.specs.Plans.{Asked, Follows, Give}

-- A node's value came from reads of these nodes: they are those of its plan, in order, and each returned
-- what its node means.
pub record CameFrom {T : Type 0} (G : Graph T) (k : Key) (read : List Key) (v : T) : Type 0 where
  pub answers : List (Asked T)
  pub asked : list_map (λ a. a.key) answers ≡ read
  pub leads : Follows (G k) answers (Give v)
  pub mean : AllMean G answers
