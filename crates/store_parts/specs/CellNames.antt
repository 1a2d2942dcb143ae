-- The machine's name of a cell.
use Rattle.store_parts.specs.declared.names.CellName.{CellName}
use Rattle.generational_core.specs.Names.{Name}

abbrev pub name_of_cell : CellName → Name
name_of_cell n = record { slot = n.slot; generation = n.generation }
