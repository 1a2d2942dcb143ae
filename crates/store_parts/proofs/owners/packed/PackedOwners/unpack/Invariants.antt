use Rattle.store_parts.proofs.{◌++◌, ◌≡◌}
use Rattle.std.proofs.Common.{drop}
use Rattle.store_parts.specs.PackedOwners.{bare_records, unpack_records}
use Rattle.store_parts.proofs.owners.packed.PackedOwners.unpack.Given as goal

-- the positions so far and those that are left are all
abbrev pub invariant-loop-position : goal.invariant-loop-position
invariant-loop-position l =
    bare_records l.records.items ++ unpack_records l.rest (drop l.position l.self-inside.records.items)
    ≡ l.self
