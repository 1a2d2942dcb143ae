use Rattle.document_tree.proofs.{outline_below, outline_within}
use Rattle.document_tree.proofs.laws.outlines_stay_below.Goals as goal

pub returns : goal.returns
returns g c = record { within = outline_within; below = outline_below }
