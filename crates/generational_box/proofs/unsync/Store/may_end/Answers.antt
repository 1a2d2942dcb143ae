use Rattle.generational_box.proofs.{arith, end_tells, hindrance_to, name_of, nat_tests, sound_linked, [], ◌∷◌}
use Rattle.generational_box.proofs.unsync.Store.may_end.Goals as goal

pub may_end-requires : goal.may_end-requires
may_end-requires g c = sound_linked _ c.self.inside.sound

pub returns-in-Some : goal.returns-in-Some
unfolding hindrance_to
returns-in-Some g c =
    let tells = end_tells c.self.inside.slots.state (name_of c.args.pointer ∷ []) in
    grind (arith, nat_tests)
