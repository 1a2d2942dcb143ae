use Rattle.store_parts.proofs.{deque_iter_rest, map, reader_row, standing_in, ◌++◌, ◌≡◌}
use Rattle.store_parts.proofs.queue.push_all.Given as goal

-- the rows so far and those of the readers that are left are all
abbrev pub invariant-loop-seat : goal.invariant-loop-seat
invariant-loop-seat l =
    l.rows.items ++ map (reader_row l.id) (standing_in (deque_iter_rest l.seat-iterator))
    ≡ l.fn.rows.items ++ map (reader_row l.id) (standing_in l.seats.items)
