use Rattle.std.proofs.Common.{◌≡◌, ◌++◌, drop}
use Rattle.store_rows.specs.Packed.{unpack_all}
use Rattle.store_rows.proofs.rows.unpack_all.Given as goal

-- the rows of the slots so far, and those of the others
abbrev pub invariant-loop-slot : goal.invariant-loop-slot
invariant-loop-slot l =
    l.rows.items ++ unpack_all l.number l.rest l.slot (drop l.slot l.slots)
    ≡ l.fn.rows.items ++ unpack_all l.number l.whole 0 l.slots
