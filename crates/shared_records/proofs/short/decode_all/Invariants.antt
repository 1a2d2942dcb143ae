use Rattle.std.proofs.Common.{◌≡◌, ◌++◌, take}
use Rattle.shared_records.specs.Decoding.{decode, reached_by, tables}
use Rattle.shared_records.proofs.short.decode_all.Given as goal

abbrev pub invariant-loop-item : goal.invariant-loop-item
invariant-loop-item l = record {
  steps : l.all.items ≡ l.initial.all.items
      ++ decode l.number (tables l.locations l.long l.far) l.fn.start (take l.item-index l.short);
  reached : l.reached
      ≡ reached_by l.number (tables l.locations l.long l.far) l.fn.start (take l.item-index l.short);
}
