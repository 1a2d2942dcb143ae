-- States without values.
use Rattle.std.specs.Prelude.{map as list_map}
use Rattle.std.specs.FinMap as map
use Rattle.generational_core.specs.Names.{Name, NameMap}
use Rattle.generational_core.specs.Cells.{Content, Cell}
use Rattle.generational_core.specs.Cells.Content.{Here, Lent}
use Rattle.generational_core.specs.Cells.Cell.{Value, Shared, Ref}
use Rattle.generational_core.specs.State.{State}

-- a state without values
abbrev pub Plain : Type 0
Plain = State (Unit {0})

module _ {T : Type 0} where
  -- no value
  abbrev pub bare : T → Unit {0}
  bare v = tt

  -- a content and a cell without their values
  abbrev pub bare_content : Content T → Content (Unit {0})
  bare_content (Here v readers) = Here (bare v) readers
  bare_content (Lent w) = Lent w

  abbrev pub bare_cell : Cell T → Cell (Unit {0})
  bare_cell (Value c l) = Value (bare_content c) l
  bare_cell (Shared c l) = Shared (bare_content c) l
  bare_cell (Ref m l) = Ref m l

  abbrev pub bare_entry : Name × Cell T → Name × Cell (Unit {0})
  bare_entry e = (e.0, bare_cell e.1)

  -- the cells without their values
  unfoldable pub bare_cells : NameMap (Cell T) → NameMap (Cell (Unit {0}))
  bare_cells cells = map.from_entries (list_map bare_entry (map.entries cells))

  -- the state without its values
  abbrev pub plain : State T → Plain
  plain S = record {
    number = S.number;
    cells = bare_cells S.cells;
    given = S.given;
    owners = S.owners;
    next = S.next;
    peak = S.peak;
    start = S.start;
  }
