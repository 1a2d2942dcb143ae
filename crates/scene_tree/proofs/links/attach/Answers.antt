use Rattle.scene_tree.proofs.{after_length, arith, attached_by, changed_length, gap_within, HasChild, inl, inr}
use Rattle.scene_tree.proofs.{same_Some, ◌∙◌}
use Rattle.scene_tree.proofs.links.attach.Goals as goal

pub put_after-requires : goal.put_after-requires
put_after-requires g c = rw (c.place.ensures.items, changed_length) (record {
  within = omega (arith, c.requires.parent, c.slot_of-up.ensures);
  child = λ s is. gap_within _ c.requires.forest _ _ _ c.gap_at-before.ensures s (inl is);
  next = λ s is. let same = same_Some _ s is in omega (arith, same, c.requires.child, c.slot_of-slot.ensures);
})

pub put_before-requires : goal.put_before-requires
put_before-requires g c =
    rw (c.put_after.ensures.items, after_length, c.place.ensures.items, changed_length) (record {
      within = omega (arith, c.requires.parent, c.slot_of-up.ensures);
      child = λ s is. gap_within _ c.requires.forest _ _ _ c.gap_at-before.ensures s (inr is);
      next = λ s is. let same = same_Some _ s is in omega (arith, same, c.requires.child, c.slot_of-slot.ensures);
    })

pub place-requires : goal.place-requires
place-requires g c = record {
  within = c.requires.child;
  parent = c.requires.parent;
  numbers = c.requires.numbers;
  beside = λ s is. gap_within _ c.requires.forest _ _ _ c.gap_at-before.ensures s is;
}

pub returns : goal.returns
returns g c =
    let links = c.args.links.now.items in
    let gap = rw c.slot_of-up.ensures at c.gap_at-before.ensures in
    let left : HasChild links c.args.parent c.args.spot c.args.child c.put_before.new.links.items =
    rw (c.put_before.ensures.items, c.put_after.ensures.items, c.place.ensures.items, c.slot_of-up.ensures)
    (rw c.slot_of-slot.ensures (attached_by links c.requires.linked c.requires.forest c.args.parent
    c.args.child c.args.spot c.requires.parent c.requires.child c.requires.root _ _ gap)) in
    record {
      number = c.put_before.ensures.number ∙ (c.put_after.ensures.number ∙ c.place.ensures.number);
      linked = left.linked;
      attached = left.attached;
      noted = left.noted;
      others = left.others;
    }
