use Rattle.shared_state.proofs.{Point, ready_as, recorded_kept, recorded_step, refl}
use Rattle.generational_core.specs.declared.steps.StepCall.TheVariants as call
use Rattle.shared_state.proofs.state.SyncState.point_to.Goals as goal

pub invariant_of-self-in-Ok : goal.invariant_of-self-in-Ok
invariant_of-self-in-Ok g c =
    recorded_kept c.self.invariant (assumption) c.self.view_is (λ i. Point
    (c.pointer-pointer.ensures i) (c.pointer-target.ensures i)) refl (ready_as c.self.view_is (λ i.
    call.PointTo (c.pointer-pointer.ensures i) (c.pointer-target.ensures i)) c.requires)
    c.in-Ok.ensures refl c.record_step.ensures

pub invariant_of-self-in-Err : goal.invariant_of-self-in-Err
invariant_of-self-in-Err g c =
    recorded_kept c.self.invariant (assumption) c.self.view_is (λ i. Point
    (c.pointer-pointer.ensures i) (c.pointer-target.ensures i)) refl (ready_as c.self.view_is (λ i.
    call.PointTo (c.pointer-pointer.ensures i) (c.pointer-target.ensures i)) c.requires)
    c.in-Err.ensures (c.end_refusal-reply.ensures.reply c.change_reference.new.self.state (Point
    c.pointer-pointer.result c.pointer-target.result)) c.record_call.ensures

pub returns-in-Ok : goal.returns-in-Ok
returns-in-Ok g c =
    assumption (recorded_step c.self.invariant (assumption) c.self.view_is (λ i. Point
    (c.pointer-pointer.ensures i) (c.pointer-target.ensures i)) refl (ready_as c.self.view_is (λ i.
    call.PointTo (c.pointer-pointer.ensures i) (c.pointer-target.ensures i)) c.requires)
    c.in-Ok.ensures refl c.record_step.ensures refl)

pub returns-in-Err : goal.returns-in-Err
returns-in-Err g c =
    assumption (recorded_step c.self.invariant (assumption) c.self.view_is (λ i. Point
    (c.pointer-pointer.ensures i) (c.pointer-target.ensures i)) refl (ready_as c.self.view_is (λ i.
    call.PointTo (c.pointer-pointer.ensures i) (c.pointer-target.ensures i)) c.requires)
    c.in-Err.ensures (c.end_refusal-reply.ensures.reply c.change_reference.new.self.state (Point
    c.pointer-pointer.result c.pointer-target.result)) c.record_call.ensures refl)
