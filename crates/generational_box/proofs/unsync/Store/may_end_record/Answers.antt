use Rattle.generational_box.proofs.{arith, end_tells, hindrance_to, nat_tests, sound_linked}
use Rattle.generational_box.proofs.unsync.Store.may_end_record.Goals as goal

pub may_end_all-requires-clause-linked : goal.may_end_all-requires-clause-linked
may_end_all-requires-clause-linked g c = sound_linked _ c.self.inside.sound

pub returns-in-Some : goal.returns-in-Some
unfolding hindrance_to
returns-in-Some g c o found =
    let tells = end_tells c.self.inside.slots.state c.in-Some.record.now.ownership.names in
    grind (arith, nat_tests)
