use Rattle.document_tree.proofs.{deep_below, deep_places}
use Rattle.document_tree.proofs.laws.depths_are_steps.Goals as goal

pub returns : goal.returns
returns g c = record { places = deep_places; depths = deep_below }
