use Rattle.store_slots.proofs.{AreLeft, close, drop, name_of_cell}
use Rattle.std.specs.Prelude.{map as list_map}
use Rattle.store_slots.proofs.slots.Slots.end_all_slow.Given as goal

abbrev pub invariant-loop-name : goal.invariant-loop-name
invariant-loop-name g l = AreLeft l.self.state (list_map name_of_cell (drop l.name-index l.names))
    (close l.fn.self.state (list_map name_of_cell l.names))
