use Rattle.generational_sessions.proofs.{arith, held_boxed, held_reaches, named_gives, named_shared}
use Rattle.generational_sessions.proofs.laws.sessions_keep_references_alive.Goals as goal

pub returns : goal.returns
returns g c = grind (arith, named_gives, named_shared, held_reaches, held_boxed)
