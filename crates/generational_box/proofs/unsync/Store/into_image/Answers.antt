use Rattle.generational_box.proofs.{sound_linked}
use Rattle.generational_box.proofs.unsync.Store.into_image.Goals as goal

pub into_image-requires-clause-linked : goal.into_image-requires-clause-linked
into_image-requires-clause-linked g c = sound_linked _ c.self.inside.sound

pub into_image-requires-clause-free : goal.into_image-requires-clause-free
into_image-requires-clause-free g c = rw (← c.self.view_is) at c.in_default.ensures.free
