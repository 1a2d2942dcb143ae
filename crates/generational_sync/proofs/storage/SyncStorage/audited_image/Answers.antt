use Rattle.shared_state.proofs.Beginning.{led_to_image}
use Rattle.generational_sync.proofs.storage.SyncStorage.audited_image.Goals as goal

pub returns-in-Ok-audit-clause-leads : goal.returns-in-Ok-audit-clause-leads
returns-in-Ok-audit-clause-leads g c =
    led_to_image g.T.Clone.is_clone _ c.in-Ok.image c.history_replays.ensures c.in-Ok.ensures.copy
    c.in-Ok-audit.ensures.base c.in-Ok-audit.ensures.steps
