use Rattle.store_slots.proofs.telling.{whole_sound}
use Rattle.store_slots.proofs.slots.loading.whole_images_are_sound.Goals as goal

pub returns : goal.returns
returns g c = whole_sound c.args.image.now c.requires
