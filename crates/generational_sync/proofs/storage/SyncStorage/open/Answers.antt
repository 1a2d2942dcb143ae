use Rattle.shared_state.proofs.Keeping.{opened_by}
use Rattle.generational_sync.proofs.storage.SyncStorage.open.Goals as goal

pub returns-clause-own : goal.returns-clause-own
returns-clause-own g c =
    opened_by c.histories_lead_to_sound_states.ensures.store g.row.NUMBER c.deref-2.result.now.state
    c.args.guard.now c.in_ok-value.value.now c.in_ok-value.ensures c.history_replays.ensures
