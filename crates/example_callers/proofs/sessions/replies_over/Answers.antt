use Rattle.example_callers.proofs.{as_replies, Run, some_so, subst}
use Rattle.example_callers.proofs.sessions.replies_over.Goals as goal

pub returns-clause-run : goal.returns-clause-run
returns-clause-run g c =
    some_so _ _ c.ok-replies.ensures.value
    (λ x run. (
      c.run.new.self,
      subst
          (λ s. Run s c.args.calls.items (as_replies x.items) c.run.new.self)
          c.new-session.ensures.session run,
    )) c.run.ensures.run
