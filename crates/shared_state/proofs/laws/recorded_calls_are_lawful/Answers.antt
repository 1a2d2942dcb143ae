use Rattle.shared_state.proofs.{plain_follows, sym}
use Rattle.shared_state.proofs.laws.recorded_calls_are_lawful.Goals as goal

pub returns-clause-start : goal.returns-clause-start
returns-clause-start g c number = sym (c.fresh_states_are_plain.ensures number 1 0)

pub returns-clause-step : goal.returns-clause-step
returns-clause-step g c =
    plain_follows c.calls_are_ready_where_no_borrow_is_told.ensures.answer
    c.plain_states_step.ensures.meets
