use Rattle.shared_state.proofs.{ap, CloneOwner, recorded_kept, recorded_step, refl, Some, sym}
use Rattle.generational_core.specs.declared.steps.StepCall.TheVariants as call
use Rattle.shared_state.proofs.state.SyncState.clone_owner.Goals as goal

pub invariant_of-self-2 : goal.invariant_of-self-2
invariant_of-self-2 g c =
    recorded_kept c.self.invariant (assumption) c.self.view_is refl (ap (λ o. Some (call.CloneOwner
    o)) (sym c.id.ensures)) refl c.clone_owner-clone.ensures (c.owner_reply-reply.ensures.reply
    c.clone_owner-clone.new.self.state (CloneOwner c.args.owner.now)) c.record_call.ensures

pub returns : goal.returns
returns g c =
    assumption (recorded_step c.self.invariant (assumption) c.self.view_is refl (ap (λ o. Some
    (call.CloneOwner o)) (sym c.id.ensures)) refl c.clone_owner-clone.ensures
    (c.owner_reply-reply.ensures.reply c.clone_owner-clone.new.self.state (CloneOwner
    c.args.owner.now)) c.record_call.ensures refl)
