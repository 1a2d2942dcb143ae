use Rattle.store_slots.proofs.{AreFree, close, drop, name_of_cell}
use Rattle.std.specs.Prelude.{map as list_map}
use Rattle.store_slots.proofs.slots.Slots.remove_all.Given as goal

abbrev pub invariant-loop-name : goal.invariant-loop-name
invariant-loop-name g l = AreFree l.self.state (drop l.name-index l.names)
    (close l.fn.self.state (list_map name_of_cell l.names))
