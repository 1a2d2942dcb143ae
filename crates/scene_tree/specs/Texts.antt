-- What the errors of trees print.
use Rattle.std.specs.Prelude.{ℕ, List, ◌++◌, Option, None, Some, codes}
use Rattle.generational_errors.specs.declared.error.Location.{Location}
use Rattle.generational_errors.specs.Texts.{location_text, store_error_text}
use Rattle.handles.specs.Texts.{stale_text}
use Rattle.scene_tree.specs.declared.node.TreeError.{TreeError}
use Rattle.scene_tree.specs.declared.node.TreeError.TheVariants as error

abbrev pub rootless_text : Option Location → List ℕ
rootless_text (Some l) = codes "the node made at " ++ (location_text l ++ codes " has no parent")
rootless_text None = codes "the node has no parent"

abbrev pub tree_error_text : TreeError → List ℕ
tree_error_text (error.Stale stale) = stale_text stale
tree_error_text (error.NoParent created_at) = rootless_text created_at
tree_error_text error.Cycle = codes "the node would be below itself"
tree_error_text (error.Store cause) = store_error_text cause
