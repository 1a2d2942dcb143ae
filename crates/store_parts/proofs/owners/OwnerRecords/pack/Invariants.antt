use Rattle.store_parts.proofs.{length, take, ◌≡◌}
use Rattle.store_parts.specs.PackedOwners.{bare_records, packed_names_of, unpack_records}
use Rattle.store_parts.proofs.owners.OwnerRecords.pack.Given as goal

-- the positions so far are packed, and all names are theirs
abbrev pub invariant-loop-position : goal.invariant-loop-position
invariant-loop-position l = record {
  packed : unpack_records l.names.items l.records.items ≡ bare_records (take l.position l.self.records);
  all : packed_names_of l.records.items ≡ length l.names.items;
}
