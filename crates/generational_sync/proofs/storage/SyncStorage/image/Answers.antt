use Rattle.shared_state.proofs.Beginning.{unseen_image}
use Rattle.generational_sync.proofs.storage.SyncStorage.image.Goals as goal

pub returns-clause-copy : goal.returns-clause-copy
returns-clause-copy g c =
    unseen_image g.T.Clone.is_clone c.deref-2.result.now.state c.image.result c.history_replays.ensures c.image.ensures.copy
