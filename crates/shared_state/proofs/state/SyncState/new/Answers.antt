use Rattle.shared_state.proofs.{ap, fresh_kept, LogState}
use Rattle.shared_state.proofs.state.SyncState.new.Goals as goal

pub invariant_of-state : goal.invariant_of-state
invariant_of-state g c =
    fresh_kept (c.recorded_calls_are_lawful.ensures.start g.row.NUMBER)
    (c.histories_lead_to_sound_states.ensures.start g.row.NUMBER) c.new.ensures
    (ap (λ (l : LogState). l.bases) c.new-2.ensures)
    (ap (λ (l : LogState). l.steps) c.new-2.ensures)
