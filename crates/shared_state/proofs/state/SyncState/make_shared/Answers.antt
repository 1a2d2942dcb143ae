use Rattle.shared_state.proofs.{ap, Made, MakeShared, Ok, option_copied, option_map}
use Rattle.shared_state.proofs.{recorded_kept, recorded_step, refl, shared_named, shared_ready}
use Rattle.shared_state.proofs.{Some, sym, ◌∙◌}
use Rattle.shared_records.specs.declared.step.StepReply.TheVariants as reply
use Rattle.shared_state.proofs.state.SyncState.make_shared.Goals as goal

pub shared_cell-requires : goal.shared_cell-requires
shared_cell-requires g c =
    shared_named _ _ (option_copied c.args.owner) c.args.value c.args.location (Ok c.in-Ok.pointer)
    c.in-Ok.ensures.step

pub invariant_of-self-in-Ok : goal.invariant_of-self-in-Ok
invariant_of-self-in-Ok g c =
    recorded_kept c.self.invariant (assumption) c.self.view_is refl c.requires (shared_ready _
    (option_copied c.args.owner) c.args.value c.args.location _ c.requires) c.in-Ok.ensures.step (ap
    (option_map (λ id. reply.MadeShared id c.in-Ok.pointer)) c.shared_cell.ensures) c.record_step.ensures

pub invariant_of-self-in-Err : goal.invariant_of-self-in-Err
invariant_of-self-in-Err g c =
    recorded_kept c.self.invariant (assumption) c.self.view_is refl (c.requires ∙ ap Some (sym
    c.making_shared-call.ensures)) (shared_ready _ (option_copied c.args.owner) c.args.value
    c.args.location _ (c.requires ∙ ap Some (sym c.making_shared-call.ensures)))
    c.in-Err.ensures.step (c.store_reply-reply.ensures.reply c.new_rc.new.self.state (MakeShared
    (option_copied c.args.owner) c.args.value c.args.location)) c.record_call.ensures

pub returns-in-Ok-clause-step : goal.returns-in-Ok-clause-step
returns-in-Ok-clause-step g c =
    recorded_step c.self.invariant (assumption) c.self.view_is refl c.requires (shared_ready _
    (option_copied c.args.owner) c.args.value c.args.location _ c.requires) c.in-Ok.ensures.step (ap
    (option_map (λ id. reply.MadeShared id c.in-Ok.pointer)) c.shared_cell.ensures) c.record_step.ensures
    (ap Made (sym c.box_at.ensures))

pub returns-in-Err-clause-step : goal.returns-in-Err-clause-step
returns-in-Err-clause-step g c =
    recorded_step c.self.invariant (assumption) c.self.view_is refl (c.requires ∙ ap Some (sym
    c.making_shared-call.ensures)) (shared_ready _ (option_copied c.args.owner) c.args.value
    c.args.location _ (c.requires ∙ ap Some (sym c.making_shared-call.ensures)))
    c.in-Err.ensures.step (c.store_reply-reply.ensures.reply c.new_rc.new.self.state (MakeShared
    (option_copied c.args.owner) c.args.value c.args.location)) c.record_call.ensures refl
