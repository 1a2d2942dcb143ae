use Rattle.scene_tree.proofs.{changed_length, changed_twice, inl, inr, refl}
use Rattle.scene_tree.proofs.links.place.Goals as goal

pub set_before-requires-clause-before : goal.set_before-requires-clause-before
set_before-requires-clause-before g c s is =
    rw (c.set_parent.ensures.items, changed_length, c.set_node.ensures.items, changed_length)
    (c.requires.beside s (inl is))

pub set_after-requires-clause-after : goal.set_after-requires-clause-after
set_after-requires-clause-after g c s is = rw (
  c.set_before.ensures.items,
  changed_length,
  c.set_parent.ensures.items,
  changed_length,
  c.set_node.ensures.items,
  changed_length,
) (c.requires.beside s (inr is))

pub returns-clause-items : goal.returns-clause-items
returns-clause-items g c = rw (
  c.set_after.ensures.items,
  c.set_before.ensures.items,
  c.set_parent.ensures.items,
  c.set_node.ensures.items,
  c.slot_of-slot.ensures,
  changed_twice,
  changed_twice,
  changed_twice,
) refl
