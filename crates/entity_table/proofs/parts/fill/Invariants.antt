use Rattle.std.proofs.Common.{◌≡◌, ◌++◌, List, length}
use Rattle.generational_core.specs.declared.boxes.GenerationalBoxId.{GenerationalBoxId}
use Rattle.handles.specs.Maps.{value_of}
use Rattle.entity_table.specs.Parts.{component_told}
use Rattle.entity_table.specs.Tables.{Entity}
use Rattle.entity_table.proofs.parts.fill.Given as goal

-- the map has the components of the rows that were taken
abbrev pub invariant-loop-id : goal.invariant-loop-id
invariant-loop-id g l = record {
  done : (done : List (GenerationalBoxId × g.row.C.Denot)) × (l.fn.rows.items ≡ l.rows.items ++ done)
      × ((e : Entity g.row.T.Denot) → value_of l.map e ≡ component_told done e);
  number : l.map.number ≡ l.fn.map.number;
  room : length l.map.rows ≡ length l.fn.map.rows;
}

abbrev pub decreases-loop-id : goal.decreases-loop-id
decreases-loop-id g l = length l.rows.items
