use Rattle.generational_box.proofs.{arith, inl, nat_tests, no_names, reach, refusal_to_write, sound_linked}
use Rattle.generational_box.proofs.{write_hindered}
use Rattle.generational_box.proofs.unsync.StoreStorage.try_write.Goals as goal

pub returns-in_default : goal.returns-in_default
unfolding reach refusal_to_write
returns-in_default g c = rw c.dropped_mut.ensures (inl (no_names, tt, grind (arith, nat_tests)))

pub writable-requires : goal.writable-requires
writable-requires g c = sound_linked _ c.self.inside.sound

pub returns-in-Err : goal.returns-in-Err
returns-in-Err g c =
    rw (← c.list_noted.ensures, ← c.self.view_is) (write_hindered _ c.args.pointer c.args.location
    (rw (← c.self.view_is) at c.in-Some.ensures) _ c.in-Err.ensures)
