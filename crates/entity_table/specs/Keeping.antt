-- What holds of a table's store and of its rows.
use Rattle.std.specs.Prelude.{◌≡◌, is_some}
use Rattle.generational_core.specs.Seeing.{value_in}
use Rattle.generational_core.specs.State.{State}
use Rattle.generational_laws.specs.PlainStores.{IsSimple}
use Rattle.handles.specs.Handles.{pointer_in}
use Rattle.handles.specs.Maps.{MapState, value_of}
use Rattle.entity_table.specs.Tables.{Entity}

-- the rows hold what is live, and nothing else
pub record IsTableKept {T : Type 0} (S : State T) (rows : MapState (Unit {0})) : Type 0 where
  pub simple : IsSimple S
  pub number : rows.number ≡ S.number
  pub same : (e : Entity T) → is_some (value_of rows e) ≡ is_some (value_in S (pointer_in e))
