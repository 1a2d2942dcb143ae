use Rattle.store_parts.proofs.{two_queue}
use Rattle.store_parts.proofs.queue.Queue.of_two.Goals as goal

pub invariant_of-new : goal.invariant_of-new
invariant_of-new c =
    rw (
      c.push_back_reserved-2.ensures.items,
      c.push_back_reserved.ensures.items,
      c.in_ok-seats.ensures.items,
      c.new.ensures,
      c.new-2.ensures,
    ) (two_queue c.args.first c.args.second c.requires)
