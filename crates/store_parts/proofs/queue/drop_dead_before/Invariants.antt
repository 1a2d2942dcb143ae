use Rattle.store_parts.proofs.{standing_in, TicketsAscend, ◌≡◌}
use Rattle.store_parts.proofs.queue.drop_dead_before.Given as goal

-- the active borrows are the same
abbrev pub invariant-loop-seat : goal.invariant-loop-seat
invariant-loop-seat l =
    (standing_in l.seats.items ≡ standing_in l.fn.seats.items) × TicketsAscend l.seats.items

abbrev pub decreases-loop-seat : goal.decreases-loop-seat
decreases-loop-seat l = l.seats.len
