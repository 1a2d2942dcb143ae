use Rattle.shared_state.proofs.{ap, dropped_ready, Read, Some, sym, ◌∙◌}
use Rattle.generational_core.specs.declared.steps.StepCall.TheVariants as call
use Rattle.shared_state.proofs.state.record_failed_read.Goals as goal

pub returns-in-Dropped-clause-ready : goal.returns-in-Dropped-clause-ready
returns-in-Dropped-clause-ready g c = λ it.
    let state = c.args.store.now.state in
    let told = sym (c.in-Some.is ∙ ap Some c.in-Dropped.is)
    ∙ c.read_refusal-reply.ensures.reply state (Read c.args.asked c.args.at) in
    sym (dropped_ready c.calls_are_ready_where_no_borrow_is_told.ensures.answer state state it.action
    (call.Read c.args.asked c.args.at) it.answer c.in-Dropped.field-0 it.asked it.met
    (told ∙ it.replied))

pub returns-in-Dropped-clause-recorded : goal.returns-in-Dropped-clause-recorded
returns-in-Dropped-clause-recorded g c =
    let state = c.args.store.now.state in
    let told = sym (c.in-Some.is ∙ ap Some c.in-Dropped.is)
    ∙ c.read_refusal-reply.ensures.reply state (Read c.args.asked c.args.at) in
    rw (← told, c.requires.own c.in-Dropped.field-0 told) c.record_step.ensures
