-- What the errors of tables of components print.
use Rattle.std.specs.Prelude.{ℕ, List, codes}
use Rattle.generational_errors.specs.Texts.{store_error_text}
use Rattle.handles.specs.Texts.{stale_text}
use Rattle.entity_table.specs.declared.components.AttachError.{AttachError}
use Rattle.entity_table.specs.declared.components.AttachError.TheVariants as attach
use Rattle.entity_table.specs.declared.pair.PairError.{PairError}
use Rattle.entity_table.specs.declared.pair.PairError.TheVariants as pair

abbrev pub attach_error_text : AttachError → List ℕ
attach_error_text (attach.Stale stale) = stale_text stale
attach_error_text (attach.Store cause) = store_error_text cause

abbrev pub pair_error_text : PairError → List ℕ
pair_error_text pair.NoFirst = codes "the first entity has no component"
pair_error_text pair.NoSecond = codes "the second entity has no component"
pair_error_text pair.SameEntity = codes "both are the same entity"
