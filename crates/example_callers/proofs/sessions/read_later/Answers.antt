use Rattle.example_callers.proofs.{ap, box_held, ended, name_of, none_so, some_so}
use Rattle.example_callers.proofs.sessions.read_later.Goals as goal

pub returns-clause-steps : goal.returns-clause-steps
returns-clause-steps g c =
    let is = c.ok-read.ensures.value in (
      _,
      c.in_ok-reply.ensures.step,
      some_so _ _ is (λ x step. step) c.call-2.ensures.step,
      none_so _ _ _ is c.call-2.ensures.unchanged,
    )

pub returns-clause-ended : goal.returns-clause-ended
returns-clause-ended g c b there ended =
    some_so _ _ c.ok-read.ensures.value
    (λ x tells. tells b (ap box_held (c.call.ensures.keep_boxes c.args.place b there))
    (c.call.ensures.ended (name_of b) ended)) c.call-2.ensures.tells_ends
