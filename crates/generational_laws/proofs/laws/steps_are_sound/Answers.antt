use Rattle.generational_laws.proofs.{fresh_sound, meets_sound}
use Rattle.generational_laws.proofs.laws.steps_are_sound.Goals as goal

pub returns : goal.returns
returns g c = search (fresh_sound, meets_sound)
