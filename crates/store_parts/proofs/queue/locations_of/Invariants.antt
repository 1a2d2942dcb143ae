use Rattle.store_parts.proofs.{deque_iter_rest, map, standing_in, ◌++◌, ◌≡◌}
use Rattle.store_parts.proofs.queue.locations_of.Given as goal

-- the locations so far and those that are left are all
abbrev pub invariant-loop-seat : goal.invariant-loop-seat
invariant-loop-seat l =
    l.locations.items ++ map (λ b. b.location) (standing_in (deque_iter_rest l.seat-iterator))
    ≡ map (λ b. b.location) (standing_in l.seats.items)
