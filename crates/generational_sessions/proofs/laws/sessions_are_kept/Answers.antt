use Rattle.generational_sessions.proofs.{owner_known, fresh_kept, session_kept, run_kept}
use Rattle.generational_sessions.proofs.laws.sessions_are_kept.Goals as goal

pub returns : goal.returns
returns g c = search (fresh_kept, session_kept, run_kept, owner_known)
