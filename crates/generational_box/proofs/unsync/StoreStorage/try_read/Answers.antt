use Rattle.generational_box.proofs.{arith, inl, nat_tests, no_names, reach, refusal_to_read, sound_linked}
use Rattle.generational_box.proofs.{state_is}
use Rattle.generational_box.proofs.unsync.StoreStorage.try_read.Goals as goal

pub returns-in_default : goal.returns-in_default
unfolding reach refusal_to_read
returns-in_default g c = inl (no_names, tt, grind (arith, nat_tests))

pub readable-requires : goal.readable-requires
readable-requires g c = rw c.list_noted.ensures (sound_linked _ c.self.inside.sound)

pub returns-in-Err : goal.returns-in-Err
unfolding reach refusal_to_read
returns-in-Err g c = inl (no_names, tt, grind (arith, nat_tests))

pub returns-then-self : goal.returns-then-self
returns-then-self g c =
    let view = rw (← c.list_noted.ensures) at (state_is c.self.view_is) in
    rw (← view) (c.refusal_to_read.ensures c.args.location)
