use Rattle.shared_state.proofs.{ap, arith, granted_ready, hindered, left_kept, left_ready}
use Rattle.shared_state.proofs.{Read, read_leaves, read_refused, read_told, recorded_kept}
use Rattle.shared_state.proofs.{recorded_step, refl, refused, rules, Some}
use Rattle.generational_core.specs.declared.steps.StepCall.TheVariants as call
use Rattle.shared_records.specs.declared.step.StepReply.TheVariants as reply
use Rattle.shared_state.proofs.state.SyncState.read_at_once.Goals as goal

pub invariant_of-self-in-Ok : goal.invariant_of-self-in-Ok
invariant_of-self-in-Ok g c =
    recorded_kept c.self.invariant (assumption) c.self.view_is (ap (λ b. Read b c.args.location)
    c.pointer-pointer.ensures) refl (granted_ready (assumption) _ _ (Read c.pointer-pointer.result
    c.args.location) _ _ refl c.in-Ok.ensures refl refl) c.in-Ok.ensures (ap (λ t. Some
    (reply.Reader t)) c.ticket.ensures) c.record_step.ensures

pub invariant_of-self-then-not-record_failed_read : goal.invariant_of-self-then-not-record_failed_read
invariant_of-self-then-not-record_failed_read g c =
    left_kept _ _ (Read c.pointer-pointer.result c.args.location) (read_refused c.in-Err.refused)
    c.self.invariant (assumption) c.in-Err.ensures (read_leaves _ c.in-Err.refused)
    c.if-not-record_failed_read.ensures.left.0

pub invariant_of-self-in-Err : goal.invariant_of-self-in-Err
invariant_of-self-in-Err g c =
    recorded_kept c.self.invariant (assumption) c.self.view_is (ap (λ b. Read b c.args.location)
    c.pointer-pointer.ensures) refl (left_ready (call.Read c.pointer-pointer.result c.args.location)
    _ _ (Read c.pointer-pointer.result c.args.location) (read_refused c.in-Err.refused)
    c.in-Err.ensures (read_leaves _ c.in-Err.refused) (c.if-not-record_failed_read.ensures.ready
    (refused _ _ (Read c.pointer-pointer.result c.args.location) (read_refused c.in-Err.refused)
    refl c.in-Err.ensures refl (read_leaves _ c.in-Err.refused)))) c.in-Err.ensures refl
    c.if-not-record_failed_read.ensures.recorded

pub returns-in-Ok-clause-step : goal.returns-in-Ok-clause-step
returns-in-Ok-clause-step g c =
    recorded_step c.self.invariant (assumption) c.self.view_is (ap (λ b. Read b c.args.location)
    c.pointer-pointer.ensures) refl (granted_ready (assumption) _ _ (Read c.pointer-pointer.result
    c.args.location) _ _ refl c.in-Ok.ensures refl refl) c.in-Ok.ensures (ap (λ t. Some
    (reply.Reader t)) c.ticket.ensures) c.record_step.ensures refl

pub returns-else-not-record_failed_read-clause-step : goal.returns-else-not-record_failed_read-clause-step
returns-else-not-record_failed_read-clause-step g c =
    recorded_step c.self.invariant (assumption) c.self.view_is (ap (λ b. Read b c.args.location)
    c.pointer-pointer.ensures) refl (left_ready (call.Read c.pointer-pointer.result c.args.location)
    _ _ (Read c.pointer-pointer.result c.args.location) (read_refused c.in-Err.refused)
    c.in-Err.ensures (read_leaves _ c.in-Err.refused) (c.if-not-record_failed_read.ensures.ready
    (refused _ _ (Read c.pointer-pointer.result c.args.location) (read_refused c.in-Err.refused)
    refl c.in-Err.ensures refl (read_leaves _ c.in-Err.refused)))) c.in-Err.ensures refl
    c.if-not-record_failed_read.ensures.recorded refl

pub returns-then-not-record_failed_read-clause-none : goal.returns-then-not-record_failed_read-clause-none
returns-then-not-record_failed_read-clause-none g c =
    hindered c.self.inside.log c.reserve.new.self _ _ (Read c.pointer-pointer.result
    c.args.location) (read_refused c.in-Err.refused) c.reserve.ensures.bases c.reserve.ensures.steps
    c.self.view_is c.in-Err.ensures (read_leaves _ c.in-Err.refused)
    c.if-not-record_failed_read.ensures.left.0 (ap (λ b. call.Read b c.args.location)
    c.pointer-pointer.ensures) (c.if-not-record_failed_read.ensures.ready (refused _ _ (Read
    c.pointer-pointer.result c.args.location) (read_refused c.in-Err.refused) refl c.in-Err.ensures
    refl (read_leaves _ c.in-Err.refused))) c.if-not-record_failed_read.ensures.left.1

pub record_failed_read-requires : goal.record_failed_read-requires
record_failed_read-requires g c =
    let told = read_told c.self.inside.store.state c.begin_read.new.store.state
    c.pointer-pointer.result c.args.location (read_refused c.in-Err.refused) c.in-Err.ensures in
    (omega arith, (search rules, told))
