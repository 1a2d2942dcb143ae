use Rattle.shared_state.proofs.{ap, end_recorded, refl, ReleaseReader, Some, sym}
use Rattle.generational_core.specs.declared.steps.StepCall.TheVariants as call
use Rattle.shared_state.proofs.state.SyncState.release_read.Goals as goal

pub invariant_of-self : goal.invariant_of-self
invariant_of-self g c =
    (end_recorded c.self.invariant c.self.view_is refl (ap (λ t. Some (call.ReleaseRead t)) (sym
    c.ticket.ensures)) refl c.release_read-known.ensures (c.flag_reply-reply.ensures.reply
    c.release_read-known.new.self.state (ReleaseReader c.args.guard)) c.record_end.ensures).0

pub returns : goal.returns
returns g c =
    assumption ((end_recorded c.self.invariant c.self.view_is refl (ap (λ t. Some (call.ReleaseRead
    t)) (sym c.ticket.ensures)) refl c.release_read-known.ensures (c.flag_reply-reply.ensures.reply
    c.release_read-known.new.self.state (ReleaseReader c.args.guard)) c.record_end.ensures).1)
