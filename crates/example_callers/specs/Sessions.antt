-- Sessions in which nothing was called.
use Rattle.std.specs.Prelude.{[]}
use Rattle.generational_core.specs.State.{State}
use Rattle.generational_sessions.specs.Session.{SessionState}

-- the session of a store's state, without places
abbrev pub session_over : {T : Type 0} → State T → SessionState T
session_over S = record { state = S; table = [] }
