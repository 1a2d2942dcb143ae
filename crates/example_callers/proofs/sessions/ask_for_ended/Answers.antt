use Rattle.example_callers.proofs.{ap, box_held, ended, slice_get}
use Rattle.example_callers.proofs.sessions.ask_for_ended.Goals as goal

pub returns-in-Ok-clause-ended : goal.returns-in-Ok-clause-ended
returns-in-Ok-clause-ended g c b there ended =
    let items = c.in_ok-calls.ensures.items in
    let told = c.in-Ok.ensures.tell_ends in
    let box = ap box_held there in (
      told 0 _ b (ap (λ xs. slice_get xs 0) items) box ended,
      told 1 _ b (ap (λ xs. slice_get xs 1) items) box ended,
    )
