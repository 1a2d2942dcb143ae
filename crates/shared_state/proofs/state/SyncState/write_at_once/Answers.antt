use Rattle.shared_state.proofs.{ap, end_leaves, end_refused, granted_ready, left_kept}
use Rattle.shared_state.proofs.{left_ready, recorded_kept, recorded_step, refl, Some, Write}
use Rattle.generational_core.specs.declared.steps.StepCall.TheVariants as call
use Rattle.shared_records.specs.declared.step.StepReply.TheVariants as reply
use Rattle.shared_state.proofs.state.SyncState.write_at_once.Goals as goal

pub invariant_of-self-in-Ok : goal.invariant_of-self-in-Ok
invariant_of-self-in-Ok g c =
    recorded_kept c.self.invariant (assumption) c.self.view_is (ap (λ b. Write b c.args.location)
    c.pointer-pointer.ensures) refl (granted_ready (assumption) _ _ (Write c.pointer-pointer.result
    c.args.location) _ _ refl c.in-Ok.ensures refl refl) c.in-Ok.ensures (ap (λ t. Some
    (reply.Writer t)) c.ticket.ensures) c.record_step.ensures

pub invariant_of-self-then-not-record_failure : goal.invariant_of-self-then-not-record_failure
invariant_of-self-then-not-record_failure g c =
    left_kept _ _ (Write c.pointer-pointer.result c.args.location) (end_refused c.in-Err.refused)
    c.self.invariant (assumption) c.in-Err.ensures (end_leaves _ c.in-Err.refused)
    c.if-not-record_failure.ensures.left.0

pub invariant_of-self-in-Err : goal.invariant_of-self-in-Err
invariant_of-self-in-Err g c =
    recorded_kept c.self.invariant (assumption) c.self.view_is (ap (λ b. Write b c.args.location)
    c.pointer-pointer.ensures) refl (left_ready (call.Write c.pointer-pointer.result
    c.args.location) _ _ (Write c.pointer-pointer.result c.args.location) (end_refused
    c.in-Err.refused) c.in-Err.ensures (end_leaves _ c.in-Err.refused)
    c.if-not-record_failure.ensures.ready) c.in-Err.ensures (c.end_refusal-reply.ensures.reply
    c.try_write.new.self.state (Write c.pointer-pointer.result c.args.location))
    c.if-not-record_failure.ensures.recorded

pub returns-in-Ok-clause-step : goal.returns-in-Ok-clause-step
returns-in-Ok-clause-step g c =
    recorded_step c.self.invariant (assumption) c.self.view_is (ap (λ b. Write b c.args.location)
    c.pointer-pointer.ensures) refl (granted_ready (assumption) _ _ (Write c.pointer-pointer.result
    c.args.location) _ _ refl c.in-Ok.ensures refl refl) c.in-Ok.ensures (ap (λ t. Some
    (reply.Writer t)) c.ticket.ensures) c.record_step.ensures refl

pub returns-else-not-record_failure-clause-step : goal.returns-else-not-record_failure-clause-step
returns-else-not-record_failure-clause-step g c =
    recorded_step c.self.invariant (assumption) c.self.view_is (ap (λ b. Write b c.args.location)
    c.pointer-pointer.ensures) refl (left_ready (call.Write c.pointer-pointer.result
    c.args.location) _ _ (Write c.pointer-pointer.result c.args.location) (end_refused
    c.in-Err.refused) c.in-Err.ensures (end_leaves _ c.in-Err.refused)
    c.if-not-record_failure.ensures.ready) c.in-Err.ensures (c.end_refusal-reply.ensures.reply
    c.try_write.new.self.state (Write c.pointer-pointer.result c.args.location))
    c.if-not-record_failure.ensures.recorded refl
