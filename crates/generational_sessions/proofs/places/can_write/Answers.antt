use Rattle.generational_sessions.proofs.{refl, inl, no_names}
use Rattle.generational_sessions.proofs.places.can_write.Goals as goal

pub returns-in-Some : goal.returns-in-Some
returns-in-Some g c =
    rw (← c.in-Some.ensures, c.can_write.ensures) (_, inl (no_names, tt, refl), refl, refl, refl)
