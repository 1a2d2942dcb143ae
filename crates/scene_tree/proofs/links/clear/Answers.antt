use Rattle.scene_tree.proofs.{changed_twice, refl}
use Rattle.scene_tree.proofs.links.clear.Goals as goal

pub returns-clause-items : goal.returns-clause-items
returns-clause-items g c =
    rw (c.set_last.ensures.items, c.set_first.ensures.items, c.remove_parent.ensures.items, changed_twice, changed_twice)
    refl
