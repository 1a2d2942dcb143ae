use Rattle.generational_core.proofs.machine.Calls.Steps.Changes
use Changes.{box_ends, box_stays, earlier_cells, earlier_record, last_cells, last_record}
use Changes.{leak_changes_nothing, listed_boxed, other_records, refused_owner_release, rest_stays}
use Changes.{shared_ends, shared_stays}
use Rattle.generational_laws.proofs.{arith}
use Rattle.generational_laws.proofs.laws.owners_last_release_ends_its_boxes.Goals as goal

ruleset cells = (last_cells, box_ends, listed_boxed, box_stays, shared_ends, shared_stays)

ruleset records = (last_record, earlier_cells, earlier_record, other_records, rest_stays)

pub returns : goal.returns
returns g c = grind (arith, cells, records, refused_owner_release, leak_changes_nothing)
