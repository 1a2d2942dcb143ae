-- The unpacked positions have the keys and the records of the packed ones.
use Rattle.store_parts.proofs.{owners_bare}
use Rattle.store_parts.proofs.owners.packed.PackedOwners.push_rows.Goals as goal

pub returns : goal.returns
returns c =
    rw (
      ← c.in_ok-records.ensures.records,
      owners_bare c.in_ok-records.records.items,
      ← c.as_slice.ensures.value,
    ) c.push_rows_by_key.ensures
