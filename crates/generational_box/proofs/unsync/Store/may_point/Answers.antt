use Rattle.generational_box.proofs.{arith, nat_tests, reach, refusal_to_read, sound_linked}
use Rattle.generational_box.proofs.unsync.Store.may_point.Goals as goal

pub unlent-requires : goal.unlent-requires
unlent-requires g c = sound_linked _ c.self.inside.sound

pub may_point-requires-clause-linked : goal.may_point-requires-clause-linked
may_point-requires-clause-linked g c = sound_linked _ c.self.inside.sound

pub returns : goal.returns
unfolding reach refusal_to_read
returns g c = let is = c.may_point.ensures c.args.pointer c.args.other in grind (arith, nat_tests)
