use Rattle.generational_box.proofs.{arith, inl, led, nat_tests, no_names, reach, refusal_to_read}
use Rattle.generational_box.proofs.{sound_linked}
use Rattle.generational_box.proofs.unsync.Store.refusal_to_read.Goals as goal

pub returns-in_default : goal.returns-in_default
unfolding reach refusal_to_read
returns-in_default g c location = inl (no_names, tt, grind (arith, nat_tests))

pub readable-found-requires : goal.readable-found-requires
readable-found-requires g c = sound_linked _ c.self.inside.sound

pub returns-in-Ok : goal.returns-in-Ok
unfolding reach refusal_to_read
returns-in-Ok g c location =
    let there = led _ c.self.inside.sound _ _ c.in-Ok.ensures.0 in
    inl (no_names, tt, grind (arith, nat_tests))

pub returns-in-Err : goal.returns-in-Err
unfolding reach refusal_to_read
returns-in-Err g c location = inl (no_names, tt, grind (arith, nat_tests))
