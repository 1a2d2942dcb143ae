-- Records of owners in few bytes, and the records that these represent.
use Rattle.std.specs.Prelude.{ℕ, ◌+◌, Option, None, Some, List, [], ◌∷◌, drop, map as list_map, take}
use Rattle.store_parts.specs.CellNames.{name_of_cell}
use Rattle.store_parts.specs.KeptRecords.{MaybeRecord, with_rooms}
use Rattle.store_parts.specs.declared.names.CellName.{CellName}
use Rattle.store_parts.specs.declared.owners.packed.PackedRecord.{PackedRecord}

-- a record, and records, whatever room there is for more names
abbrev pub bare_record : MaybeRecord → MaybeRecord
bare_record None = None
bare_record (Some r) = Some (with_rooms 0 r)

abbrev pub bare_records : List MaybeRecord → List MaybeRecord
bare_records records = list_map bare_record records

-- how many names a packed record has, and packed records have together
abbrev pub packed_names : Option PackedRecord → ℕ
packed_names None = 0
packed_names (Some r) = r.names

abbrev pub packed_names_of : List (Option PackedRecord) → ℕ
packed_names_of [] = 0
packed_names_of (p ∷ records) = packed_names p + packed_names_of records

-- the record that a packed one represents, and those of several, if these are the next names
abbrev pub unpack_record : List CellName → Option PackedRecord → MaybeRecord
unpack_record names None = None
unpack_record names (Some r) = Some (record {
  key = r.key;
  ownership = record { names = list_map name_of_cell (take r.names names); count = r.count };
  rooms = 0;
})

abbrev pub unpack_records : List CellName → List (Option PackedRecord) → List MaybeRecord
unpack_records names [] = []
unpack_records names (p ∷ records) =
    unpack_record names p ∷ unpack_records (drop (packed_names p) names) records
