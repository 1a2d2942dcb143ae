-- The questions of a run.
use Rattle.std.specs.Prelude.{List, [], ◌∷◌, take}
use Rattle.std.specs.Vec.{vec_items}
use Rattle.reactive.specs.declared.key.Key.{Key}
use Rattle.reactive.specs.declared.reader.Questions.{Questions}

-- those that are listed; or those that were counted, if none is
abbrev pub listed_or : List Key → List Key → List Key
listed_or counted [] = counted
listed_or counted (k ∷ rest) = k ∷ rest

abbrev pub asked_by : Questions → List Key
asked_by q = listed_or (take q.same q.kept.now) (vec_items q.listed)
