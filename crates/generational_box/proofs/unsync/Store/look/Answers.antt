use Rattle.generational_box.proofs.{reach_own, sound_linked}
use Rattle.generational_box.proofs.unsync.Store.look.Goals as goal

pub look-requires : goal.look-requires
look-requires g c = sound_linked _ c.self.inside.sound

pub returns-in-Some : goal.returns-in-Some
returns-in-Some g c =
    rw (reach_own c.args.self.now.state c.args.pointer c.in-Some.ensures, ← c.self.view_is) c.look.ensures
