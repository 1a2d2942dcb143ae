-- What a cell that goes names.
use Rattle.std.specs.Prelude.{Option, Some, None, if◌then◌else◌}
use Rattle.std.specs.FinMap as map
use Rattle.generational_core.specs.Names.{Name, NameMap}
use Rattle.generational_core.specs.Cells.{Cell, is_shared}
use Rattle.generational_core.specs.Cells.Cell.{Ref}

-- the shared value that a cell names, if that is live
abbrev pub live_target : {T : Type 0} → NameMap (Cell T) → Option (Cell T) → Option Name
live_target cells (Some (Ref m l)) = if is_shared (map.get cells m) then Some m else None
live_target cells _ = None
