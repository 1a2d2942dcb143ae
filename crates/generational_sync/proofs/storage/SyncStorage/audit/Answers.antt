use Rattle.shared_state.proofs.Keeping.Relocating.{audited}
use Rattle.std.specs.Vec.{vec_items}
use Rattle.generational_sync.proofs.storage.SyncStorage.audit.Goals as goal

pub returns-clause-replays : goal.returns-clause-replays
returns-clause-replays g c =
    audited vec_items g.row.NUMBER _ c.audit.result c.history_replays.ensures c.audit.ensures.base
    c.audit.ensures.steps
