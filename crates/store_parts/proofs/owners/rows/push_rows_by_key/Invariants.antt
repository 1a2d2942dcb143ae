use Rattle.store_parts.proofs.{owner_rows, owners_of, rows_at, ◌++◌, ◌≡◌}
use Rattle.std.specs.FinMap as map
use Rattle.store_parts.proofs.owners.rows.push_rows_by_key.Given as goal

-- the rows so far and those of the records that are left are all
abbrev pub invariant-loop-position : goal.invariant-loop-position
invariant-loop-position l =
    l.rows.items ++ rows_at l.records l.number l.position-iterator
    ≡ l.fn.rows.items ++ owner_rows l.number (map.entries (owners_of l.records))
