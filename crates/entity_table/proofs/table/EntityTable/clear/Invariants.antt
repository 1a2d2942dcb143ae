use Rattle.std.proofs.Common.{◌≡◌, ◌<◌, None}
use Rattle.entity_table.specs.Tables.{created_at, element_in, Entity, WasSpawned}
use Rattle.handles.specs.Handles.{slot_in}
use Rattle.entity_table.proofs.table.EntityTable.clear.Given as goal

abbrev pub invariant-loop-slot : goal.invariant-loop-slot
invariant-loop-slot g l = record {
  gone : (e : Entity _) → slot_in e < l.slot → element_in l.self e ≡ None;
  none : (e : Entity _) → element_in l.fn.self e ≡ None → element_in l.self e ≡ None;
  kept : (e : Entity _) → WasSpawned l.fn.self e → WasSpawned l.self e;
  told : (e : Entity _) → created_at l.self e ≡ created_at l.fn.self e;
}
