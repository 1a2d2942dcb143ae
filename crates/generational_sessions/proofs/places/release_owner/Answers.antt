use Rattle.generational_sessions.proofs.{refl, ap, ◌∙◌, map, Owner, as_held, held_there, set_there}
use Rattle.generational_sessions.proofs.{put_back, refusal_reply}
use Rattle.generational_sessions.proofs.places.release_owner.Goals as goal

pub returns-in-Ok-clause-step : goal.returns-in-Ok-clause-step
returns-in-Ok-clause-step g c = rw (held_there _ _ _ c.in-Some.ensures.there)
    (_, c.in-Ok.ensures.step, refl, refl, set_there _ _ c.args.place _ c.in-Some.ensures.taken)

pub returns-in-Err-clause-step : goal.returns-in-Err-clause-step
returns-in-Err-clause-step g c = let told = refusal_reply c.args.place c.in-Err.refused _ in
    let same = put_back c.args.place _ c.in-Some.ensures.there
    c.in-Some.ensures.taken c.put_owner.ensures.put (ap Owner c.in-Err.ensures.back) in
    rw (c.refusal.ensures, held_there _ _ _ c.in-Some.ensures.there)
    (_, c.in-Err.ensures.step, told.0, told.1, ap (map as_held) same ∙ told.2)
