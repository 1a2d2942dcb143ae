use Rattle.scene_tree.proofs.{after_length, arith, beside_within, changed_length, detached_by, HasNoParent, inl, inr}
use Rattle.scene_tree.proofs.{sym, top_within, ◌∙◌}
use Rattle.scene_tree.proofs.links.detach.Goals as goal

pub put_after-requires : goal.put_after-requires
put_after-requires g c =
    let has = rw c.slot_of-slot.ensures at (sym c.parent_at.ensures ∙ c.in-Some.is) in
    let tie = rw c.slot_of-slot.ensures at c.sides_at-before.ensures.1 in
    let lt = top_within _ c.requires.forest _ _ has in
    rw (c.remove_parent.ensures.items, changed_length) (record {
      within = omega (arith, lt, c.slot_of-up.ensures);
      child = λ s is. beside_within _ c.requires.linked c.requires.forest c.args.node _ has
          c.requires.alike _ _ _ tie s (inl is);
      next = λ s is. beside_within _ c.requires.linked c.requires.forest c.args.node _ has
          c.requires.alike _ _ _ tie s (inr is);
    })

pub put_before-requires : goal.put_before-requires
put_before-requires g c =
    let has = rw c.slot_of-slot.ensures at (sym c.parent_at.ensures ∙ c.in-Some.is) in
    let tie = rw c.slot_of-slot.ensures at c.sides_at-before.ensures.1 in
    let lt = top_within _ c.requires.forest _ _ has in
    rw (c.put_after.ensures.items, after_length, c.remove_parent.ensures.items, changed_length) (record {
      within = omega (arith, lt, c.slot_of-up.ensures);
      child = λ s is. beside_within _ c.requires.linked c.requires.forest c.args.node _ has
          c.requires.alike _ _ _ tie s (inr is);
      next = λ s is. beside_within _ c.requires.linked c.requires.forest c.args.node _ has
          c.requires.alike _ _ _ tie s (inl is);
    })

pub returns : goal.returns
returns g c =
    let has = rw c.slot_of-slot.ensures at (sym c.parent_at.ensures ∙ c.in-Some.is) in
    let tie = rw c.slot_of-slot.ensures at c.sides_at-before.ensures.1 in
    let left : HasNoParent c.args.links.now.items c.args.node c.put_before.new.links.items =
    rw (c.put_before.ensures.items, c.put_after.ensures.items, c.remove_parent.ensures.items, c.slot_of-up.ensures)
    (rw c.slot_of-slot.ensures (detached_by _ c.requires.linked c.requires.forest c.args.node _ has
    c.requires.alike _ _ _ tie)) in record {
      number = c.put_before.ensures.number ∙ (c.put_after.ensures.number ∙ c.remove_parent.ensures.number);
      linked = left.linked;
      detached = left.detached;
      noted = left.noted;
    }
