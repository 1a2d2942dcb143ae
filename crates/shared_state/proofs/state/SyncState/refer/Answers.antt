use Rattle.shared_state.proofs.{ap, Made, option_copied, ready_as, recorded_kept}
use Rattle.shared_state.proofs.{recorded_step, Refer, referred_by, refl, Some, sym, ◌∙◌}
use Rattle.shared_state.proofs.state.SyncState.refer.Goals as goal

pub invariant_of-self-in-Ok : goal.invariant_of-self-in-Ok
invariant_of-self-in-Ok g c =
    recorded_kept c.self.invariant (assumption) c.self.view_is refl c.requires.call (ready_as {c =
    referred_by c.args.id c.args.asked} c.self.view_is refl c.requires.ready) c.in-Ok.ensures refl
    c.record_step.ensures

pub invariant_of-self-in-Err : goal.invariant_of-self-in-Err
invariant_of-self-in-Err g c =
    recorded_kept c.self.invariant (assumption) c.self.view_is refl (c.requires.call ∙ ap Some (sym
    c.making_reference-call.ensures)) (ready_as c.self.view_is c.making_reference-call.ensures
    c.requires.ready) c.in-Err.ensures (c.read_refusal-reply.ensures.reply
    c.new_reference.new.self.state (Refer (option_copied c.args.owner) c.args.asked))
    c.record_call.ensures

pub returns-in-Ok : goal.returns-in-Ok
returns-in-Ok g c =
    assumption (recorded_step c.self.invariant (assumption) c.self.view_is refl c.requires.call
    (ready_as {c = referred_by c.args.id c.args.asked} c.self.view_is refl c.requires.ready)
    c.in-Ok.ensures refl c.record_step.ensures (ap Made (sym c.box_at.ensures)))

pub returns-in-Err : goal.returns-in-Err
returns-in-Err g c =
    assumption (recorded_step c.self.invariant (assumption) c.self.view_is refl (c.requires.call ∙
    ap Some (sym c.making_reference-call.ensures)) (ready_as c.self.view_is
    c.making_reference-call.ensures c.requires.ready) c.in-Err.ensures
    (c.read_refusal-reply.ensures.reply c.new_reference.new.self.state (Refer (option_copied
    c.args.owner) c.args.asked)) c.record_call.ensures refl)
