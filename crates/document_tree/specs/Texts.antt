-- What the error of documents prints.
use Rattle.std.specs.Prelude.{ℕ, List, codes}
use Rattle.handles.specs.Texts.{stale_text}
use Rattle.document_tree.specs.declared.place.PlaceError.{PlaceError}
use Rattle.document_tree.specs.declared.place.PlaceError.TheVariants as error

abbrev pub place_error_text : PlaceError → List ℕ
place_error_text (error.Stale stale) = stale_text stale
place_error_text error.OutOfMemory = codes "out of memory"
place_error_text error.OutOfRange = codes "the index is past the children"
