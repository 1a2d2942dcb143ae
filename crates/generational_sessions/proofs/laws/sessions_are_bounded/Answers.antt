use Rattle.generational_sessions.proofs.{arith, session_bounded, run_kept}
use Rattle.generational_sessions.proofs.laws.sessions_are_bounded.Goals as goal

pub returns : goal.returns
returns g c = grind (arith, session_bounded, run_kept)
