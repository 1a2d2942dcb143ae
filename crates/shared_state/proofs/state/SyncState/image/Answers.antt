use Rattle.shared_state.proofs.{owned_image, shared}
use Rattle.shared_state.proofs.state.SyncState.image.Goals as goal

pub returns-clause-own : goal.returns-clause-own
returns-clause-own g c =
    owned_image g.T.Clone.is_clone (shared c.self.inside.store.state c.self.inside.log) c.image.result
    c.histories_lead_to_sound_states.ensures.store c.histories_lead_to_sound_states.ensures.generation
    (c.self.invariant.own, c.self.invariant.sound, c.self.invariant.leads) c.image.ensures.copy
