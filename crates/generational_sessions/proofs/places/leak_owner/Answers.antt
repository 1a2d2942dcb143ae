use Rattle.generational_sessions.proofs.{refl, inl, no_names, held_there, set_there}
use Rattle.generational_sessions.proofs.places.leak_owner.Goals as goal

pub returns-in-Some-clause-step : goal.returns-in-Some-clause-step
returns-in-Some-clause-step g c = rw (held_there _ _ _ c.in-Some.ensures.there)
    (_, inl (no_names, tt, refl), refl, refl, set_there _ _ c.args.place _ c.in-Some.ensures.taken)
