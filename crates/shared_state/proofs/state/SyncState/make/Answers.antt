use Rattle.shared_state.proofs.{ap, Made, Make, make_ready, on_true, option_copied}
use Rattle.shared_state.proofs.{recorded_kept, recorded_step, refl, Some, sym, ◌∙◌}
use Rattle.shared_state.proofs.state.SyncState.make.Goals as goal

pub invariant_of-self-in-Ok : goal.invariant_of-self-in-Ok
invariant_of-self-in-Ok g c =
    recorded_kept c.self.invariant (assumption) c.self.view_is refl c.requires (make_ready _
    (option_copied c.args.owner) c.args.value c.args.location _ c.requires) c.in-Ok.ensures.step
    refl c.record_step.ensures

pub invariant_of-self-in-Err : goal.invariant_of-self-in-Err
invariant_of-self-in-Err g c =
    recorded_kept c.self.invariant (assumption) c.self.view_is refl (c.requires ∙ ap Some (sym
    c.making-call.ensures)) (make_ready _ (option_copied c.args.owner) c.args.value c.args.location
    _ (c.requires ∙ ap Some (sym c.making-call.ensures))) c.in-Err.ensures.step
    (c.store_reply-reply.ensures.reply c.new.new.self.state (Make (option_copied c.args.owner)
    c.args.value c.args.location)) (on_true (c.record_failure.ensures.ready ∙ make_ready _
    (option_copied c.args.owner) c.args.value c.args.location _ (c.requires ∙ ap Some (sym
    c.making-call.ensures))) c.record_failure.ensures.recorded)

pub returns-in-Ok-clause-step : goal.returns-in-Ok-clause-step
returns-in-Ok-clause-step g c =
    recorded_step c.self.invariant (assumption) c.self.view_is refl c.requires (make_ready _
    (option_copied c.args.owner) c.args.value c.args.location _ c.requires) c.in-Ok.ensures.step
    refl c.record_step.ensures (ap Made (sym c.box_at.ensures))

pub returns-in-Err-clause-step : goal.returns-in-Err-clause-step
returns-in-Err-clause-step g c =
    recorded_step c.self.invariant (assumption) c.self.view_is refl (c.requires ∙ ap Some (sym
    c.making-call.ensures)) (make_ready _ (option_copied c.args.owner) c.args.value c.args.location
    _ (c.requires ∙ ap Some (sym c.making-call.ensures))) c.in-Err.ensures.step
    (c.store_reply-reply.ensures.reply c.new.new.self.state (Make (option_copied c.args.owner)
    c.args.value c.args.location)) (on_true (c.record_failure.ensures.ready ∙ make_ready _
    (option_copied c.args.owner) c.args.value c.args.location _ (c.requires ∙ ap Some (sym
    c.making-call.ensures))) c.record_failure.ensures.recorded) refl
