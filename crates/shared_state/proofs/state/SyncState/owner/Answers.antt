use Rattle.shared_state.proofs.{ap, NewOwner, recorded_kept, recorded_step, refl, Some}
use Rattle.shared_records.specs.declared.step.StepReply.TheVariants as reply
use Rattle.shared_state.proofs.state.SyncState.owner.Goals as goal

pub invariant_of-self-in-Ok : goal.invariant_of-self-in-Ok
invariant_of-self-in-Ok g c =
    recorded_kept c.self.invariant (assumption) c.self.view_is refl refl refl c.in-Ok.ensures (ap (λ
    o. Some (reply.Owner o)) c.id.ensures) c.record_step.ensures

pub invariant_of-self-in-Err : goal.invariant_of-self-in-Err
invariant_of-self-in-Err g c =
    recorded_kept c.self.invariant (assumption) c.self.view_is refl refl refl c.in-Err.ensures
    (c.store_reply-reply.ensures.reply c.owner.new.self.state NewOwner) c.record_call.ensures

pub returns-in-Ok : goal.returns-in-Ok
returns-in-Ok g c =
    assumption (recorded_step c.self.invariant (assumption) c.self.view_is refl refl refl
    c.in-Ok.ensures (ap (λ o. Some (reply.Owner o)) c.id.ensures) c.record_step.ensures refl)

pub returns-in-Err : goal.returns-in-Err
returns-in-Err g c =
    assumption (recorded_step c.self.invariant (assumption) c.self.view_is refl refl refl
    c.in-Err.ensures (c.store_reply-reply.ensures.reply c.owner.new.self.state NewOwner)
    c.record_call.ensures refl)
