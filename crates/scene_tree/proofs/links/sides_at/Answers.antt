use Rattle.scene_tree.proofs.{ap, tie_of}
use Rattle.scene_tree.proofs.links.sides_at.Goals as goal

pub returns : goal.returns
returns g c = (_, ap tie_of c.at-link.ensures.link)
