use Rattle.shared_state.proofs.{answers_so}
use Rattle.shared_state.proofs.laws.free_calls_are_answered_so.Goals as goal

pub returns : goal.returns
returns g c S R action call answer e ready m =
    answers_so S R action call answer e m
    (c.calls_are_ready_where_no_borrow_is_told.ensures.ready S R action call answer e ready m)
