use Rattle.generational_sessions.proofs.{◌+◌, ◌≤◌, ◌++◌, reverse, vec_len, vec_capacity, Run}
use Rattle.generational_sessions.proofs.{as_session, as_replies}
use Rattle.generational_sessions.proofs.session.Session.run.Given as goal

-- a run of the remaining calls, after the replies so far, is a run of all
abbrev pub invariant-loop-call : goal.invariant-loop-call
invariant-loop-call g l = record {
  run : (rest : _) (last : _) → Run (as_session (g.S.AnyStorage.state l.self-inside.store)
      l.self-inside.things.items) (reverse l.calls.items) rest last
      → Run l.fn.self l.fn.calls.items (as_replies l.replies.items ++ rest) last;
  things : vec_len l.self-inside.things + vec_len l.calls ≤ vec_capacity l.self-inside.things;
  replies : vec_len l.replies + vec_len l.calls ≤ vec_capacity l.replies;
}

abbrev pub decreases-loop-call : goal.decreases-loop-call
decreases-loop-call g l = goal.left-loop-call g l
