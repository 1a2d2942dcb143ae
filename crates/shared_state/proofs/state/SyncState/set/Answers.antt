use Rattle.shared_state.proofs.{ap, ready_as, recorded_kept, recorded_step, refl, SetValue}
use Rattle.generational_core.specs.declared.steps.StepCall.TheVariants as call
use Rattle.shared_state.proofs.state.SyncState.set.Goals as goal

pub invariant_of-self-in-Ok : goal.invariant_of-self-in-Ok
invariant_of-self-in-Ok g c =
    recorded_kept c.self.invariant (assumption) c.self.view_is (ap (λ b. SetValue b c.args.value)
    c.pointer-pointer.ensures) refl (ready_as c.self.view_is (ap call.Set c.pointer-pointer.ensures)
    c.requires) c.in-Ok.ensures.step.1 refl c.record_step.ensures

pub invariant_of-self-in-Err : goal.invariant_of-self-in-Err
invariant_of-self-in-Err g c =
    recorded_kept c.self.invariant (assumption) c.self.view_is (ap (λ b. SetValue b c.args.value)
    c.pointer-pointer.ensures) refl (ready_as c.self.view_is (ap call.Set c.pointer-pointer.ensures)
    c.requires) c.in-Err.ensures.step.1 (c.end_refusal-reply.ensures.reply
    c.set_value.new.store.state (SetValue c.pointer-pointer.result c.args.value))
    c.record_call.ensures

pub returns-in-Ok-clause-step : goal.returns-in-Ok-clause-step
returns-in-Ok-clause-step g c = (
  c.in-Ok.ensures.step.0,
  (recorded_step c.self.invariant (assumption) c.self.view_is (ap (λ b. SetValue b c.args.value)
      c.pointer-pointer.ensures) refl (ready_as c.self.view_is (ap call.Set
      c.pointer-pointer.ensures) c.requires) c.in-Ok.ensures.step.1 refl c.record_step.ensures refl),
)

pub returns-in-Err-clause-step : goal.returns-in-Err-clause-step
returns-in-Err-clause-step g c = (
  c.in-Err.ensures.step.0,
  (recorded_step c.self.invariant (assumption) c.self.view_is (ap (λ b. SetValue b c.args.value)
      c.pointer-pointer.ensures) refl (ready_as c.self.view_is (ap call.Set
      c.pointer-pointer.ensures) c.requires) c.in-Err.ensures.step.1
      (c.end_refusal-reply.ensures.reply c.set_value.new.store.state (SetValue
      c.pointer-pointer.result c.args.value)) c.record_call.ensures refl),
)
