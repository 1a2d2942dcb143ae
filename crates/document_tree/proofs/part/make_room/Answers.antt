use Rattle.document_tree.proofs.{all_of_count, arith, is_some}
use Rattle.document_tree.proofs.part.make_room.Goals as goal

pub returns-else-is_ok-clause-full : goal.returns-else-is_ok-clause-full
returns-else-is_ok-clause-full g c none =
    let few = c.capacity.ensures.slots in
    all_of_count is_some c.args.parts.now.slots (omega (arith, few))
