-- What the error of a stale handle prints.
use Rattle.std.specs.Prelude.{ℕ, List, ◌++◌, Option, None, Some, codes}
use Rattle.generational_errors.specs.declared.error.Location.{Location}
use Rattle.generational_errors.specs.Texts.{location_text}
use Rattle.handles.specs.declared.stale.Stale.{Stale}

abbrev pub gone_text : Option Location → List ℕ
gone_text (Some l) = codes "the value made at " ++ (location_text l ++ codes " is gone")
gone_text None = codes "the handle is of another table"

abbrev pub stale_text : Stale → List ℕ
stale_text stale = gone_text stale.created_at
