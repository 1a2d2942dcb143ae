use Rattle.generational_laws.proofs.{made, made_shared, referred, referred_reach}
use Rattle.generational_laws.proofs.{referred_together, made_apart, referred_apart, points}
use Rattle.generational_laws.proofs.laws.made_boxes_see_their_values.Goals as goal

ruleset apart = (made_apart, referred_apart)

pub returns : goal.returns
returns g c = search (apart, made, made_shared, referred, referred_reach, referred_together, points)
