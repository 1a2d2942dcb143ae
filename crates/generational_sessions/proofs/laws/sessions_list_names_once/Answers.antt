use Rattle.generational_sessions.proofs.{run_listed, session_listed}
use Rattle.generational_sessions.proofs.laws.sessions_list_names_once.Goals as goal

pub returns : goal.returns
returns g c = search (session_listed, run_listed)
