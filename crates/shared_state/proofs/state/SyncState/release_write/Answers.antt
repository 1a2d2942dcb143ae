use Rattle.shared_state.proofs.{ap, end_recorded, refl, ReleaseWriter, Some, sym}
use Rattle.generational_core.specs.declared.steps.StepCall.TheVariants as call
use Rattle.shared_state.proofs.state.SyncState.release_write.Goals as goal

pub invariant_of-self : goal.invariant_of-self
invariant_of-self g c =
    (end_recorded c.self.invariant c.self.view_is refl (ap (λ t. Some (call.ReleaseWrite t)) (sym
    c.ticket.ensures)) refl c.release_write-released.ensures (c.back_reply-reply.ensures.reply
    c.release_write-released.new.self.state (ReleaseWriter c.args.guard.guard c.args.guard.value))
    c.record_end.ensures).0

pub returns : goal.returns
returns g c =
    assumption ((end_recorded c.self.invariant c.self.view_is refl (ap (λ t. Some (call.ReleaseWrite
    t)) (sym c.ticket.ensures)) refl c.release_write-released.ensures
    (c.back_reply-reply.ensures.reply c.release_write-released.new.self.state (ReleaseWriter
    c.args.guard.guard c.args.guard.value)) c.record_end.ensures).1)
