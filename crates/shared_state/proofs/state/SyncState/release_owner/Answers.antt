use Rattle.shared_state.proofs.{ap, ready_as, recorded_kept, recorded_step, refl, ReleaseOwner}
use Rattle.shared_state.proofs.{Some, sym}
use Rattle.generational_core.specs.declared.steps.StepCall.TheVariants as call
use Rattle.shared_state.proofs.state.SyncState.release_owner.Goals as goal

pub invariant_of-self-in-Ok : goal.invariant_of-self-in-Ok
invariant_of-self-in-Ok g c =
    recorded_kept c.self.invariant (assumption) c.self.view_is refl (ap (λ o. Some
    (call.ReleaseOwner o)) (sym c.id-id.ensures)) (ready_as c.self.view_is (ap call.ReleaseOwner
    c.id-id.ensures) c.requires) c.in-Ok.ensures.step refl c.record_step.ensures

pub invariant_of-self-in-Err : goal.invariant_of-self-in-Err
invariant_of-self-in-Err g c =
    recorded_kept c.self.invariant (assumption) c.self.view_is refl (ap (λ o. Some
    (call.ReleaseOwner o)) (sym c.id-id.ensures)) (ready_as c.self.view_is (ap call.ReleaseOwner
    c.id-id.ensures) c.requires) c.in-Err.ensures.step (c.end_refusal-reply.ensures.reply
    c.release_owner.new.self.state (ReleaseOwner c.args.owner)) c.record_call.ensures

pub returns-in-Ok-clause-step : goal.returns-in-Ok-clause-step
returns-in-Ok-clause-step g c =
    recorded_step c.self.invariant (assumption) c.self.view_is refl (ap (λ o. Some
    (call.ReleaseOwner o)) (sym c.id-id.ensures)) (ready_as c.self.view_is (ap call.ReleaseOwner
    c.id-id.ensures) c.requires) c.in-Ok.ensures.step refl c.record_step.ensures refl

pub returns-in-Err-clause-step : goal.returns-in-Err-clause-step
returns-in-Err-clause-step g c =
    recorded_step c.self.invariant (assumption) c.self.view_is refl (ap (λ o. Some
    (call.ReleaseOwner o)) (sym c.id-id.ensures)) (ready_as c.self.view_is (ap call.ReleaseOwner
    c.id-id.ensures) c.requires) c.in-Err.ensures.step (c.end_refusal-reply.ensures.reply
    c.release_owner.new.self.state (ReleaseOwner c.args.owner)) c.record_call.ensures refl
