use Rattle.generational_sessions.proofs.{session_released}
use Rattle.generational_sessions.proofs.laws.sessions_release_owners.Goals as goal

pub returns : goal.returns
returns g c = search session_released
