use Rattle.generational_box.proofs.{sound_linked}
use Rattle.generational_box.proofs.unsync.Store.image.Goals as goal

pub image-requires-clause-linked : goal.image-requires-clause-linked
image-requires-clause-linked g c = sound_linked _ c.self.inside.sound
