use Rattle.generational_box.proofs.{sound_linked}
use Rattle.generational_box.proofs.unsync.StoreStorage.peek.Goals as goal

pub peek-requires : goal.peek-requires
peek-requires g c = sound_linked _ c.self.inside.sound
