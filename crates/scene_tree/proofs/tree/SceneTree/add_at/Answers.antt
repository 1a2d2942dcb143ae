use Rattle.scene_tree.proofs.{added_child, added_others, added_parent, ap, arith, family_in, is_some, kept_added}
use Rattle.scene_tree.proofs.{length-map, live_number, live_slot, made_fresh, made_given, made_is_simple, made_number}
use Rattle.scene_tree.proofs.{made_one_more, made_shown, meets_given, meets_number, new_alone, new_kept, new_within, noted_made}
use Rattle.scene_tree.proofs.{rules, slot_in, slot_of, spot_in, sym, told_in, ◌∙◌}
use Rattle.scene_tree.proofs.tree.SceneTree.add_at.Goals as goal

pub attach-requires : goal.attach-requires
attach-requires g c =
    let sound = g.met.S.AnyStorage.sound in
    let k = c.self.invariant.0 in
    let n = c.in-Ok-make.child in
    let made = c.in-Ok-make.ensures in
    let opened = made.opened in
    let live = rw (← c.self.view_is) at c.in-Ok.ensures.live in
    let long = length-map c.make.new.links.items (family_in c.make.new.links.items) in record {
      linked = made.linked;
      forest = (new_kept k (sound _) _ _ n made.made _ opened).forest;
      spot = rw (ap (λ f. f.children) (opened.same (slot_in c.in-Ok.parent))) (spot_in k (told_in c.self.inside.sites) (sound _) c.args.spot
          c.in-Ok.parent (rw (← c.self.view_is) at c.in-Ok.ensures.parent));
      parent = omega (arith, live_slot _ (sound _) k c.in-Ok.parent live, made.longer);
      child = omega (arith, new_within k (sound _) _ _ n made.made _ opened, long);
      numbers = (
        made_number _ _ n made.made ∙ sym (made.number ∙ c.self.invariant.3),
        live_number (sound _) c.in-Ok.parent live ∙ sym (made.number ∙ c.self.invariant.3),
      );
      root = ap (λ f. slot_of f.parent) (new_alone k (sound _) _ _ n made.made _ opened);
    }

pub invariant_of-self-2 : goal.invariant_of-self-2
invariant_of-self-2 g c =
    let sound = g.met.S.AnyStorage.sound in
    let n = c.in-Ok-make.child in
    let made = c.in-Ok-make.ensures in
    let live = rw (← c.self.view_is) at c.in-Ok.ensures.live in
    let is = rw (← c.self.view_is) at c.in-Ok.ensures.parent in (
      kept_added c.self.invariant.0 (sound _) _ _ (told_in c.self.inside.sites) c.in-Ok.parent n c.args.spot made.made live is _ _
          made.opened c.attach.ensures.attached,
      c.attach.ensures.linked,
      noted_made c.self.invariant.2 (sound _) (sound _) (made_is_simple c.self.invariant.0 (sound _) _ _ n made.made)
          _ _ n made.made (ap is_some (made_shown _ _ n made.made)) c.attach.ensures.noted
          (λ s ne. c.attach.ensures.others s ne ∙ made.others s ne),
      c.attach.ensures.number ∙ (made.number ∙ (c.self.invariant.3 ∙ sym (meets_number _ _ _ _ made.made.1))),
    )

pub returns : goal.returns
returns g c =
    let sound = g.met.S.AnyStorage.sound in
    let k = c.self.invariant.0 in
    let parent = c.in-Ok.parent in
    let n = c.in-Ok-make.child in
    let h = c.in-Ok-make.ensures.made in
    let live = rw (← c.self.view_is) at c.in-Ok.ensures.live in
    let is = rw (← c.self.view_is) at c.in-Ok.ensures.parent in
    let opened = c.in-Ok-make.ensures.opened in
    let put = c.attach.ensures.attached in
    let number = meets_number _ _ _ _ h.1 ∙ sym c.self.invariant.3 in
    rw (← c.self.view_is) (record {
      shown = made_shown _ _ n h;
      below = added_child k (sound _) _ _ (told_in c.self.inside.sites) parent n c.args.spot h live is _ _
          opened put (told_in c.make.new.sites);
      placed = added_parent k (sound _) _ _ (told_in c.self.inside.sites) parent n c.args.spot h live is _ _
          opened put (told_in c.make.new.sites);
      count = made_one_more k (sound _) _ _ n h;
      others = added_others k (sound _) _ _ (told_in c.self.inside.sites) parent n c.args.spot h live is _ _
          opened put (told_in c.make.new.sites);
      new = made_fresh _ _ n h;
      made = made_given _ _ n h;
      here = rw number c.in-Ok-make.ensures.here;
      tells = λ f l told. rw number (c.in-Ok-make.ensures.tells f l (rw (← c.self.invariant.3) at told));
      kept = λ f. meets_given _ _ _ _ h.1 _;
      stale = search rules;
      root = search rules;
      short = search rules;
      back = search rules;
      refused = search rules;
    })
