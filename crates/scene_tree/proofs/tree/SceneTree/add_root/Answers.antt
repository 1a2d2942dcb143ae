use Rattle.scene_tree.proofs.{ap, is_some, left_with, live_family, made_fresh, made_given, made_is_simple, made_left}
use Rattle.scene_tree.proofs.{made_one_more, made_others, made_shown, meets_given, meets_number, new_alone, new_kept}
use Rattle.scene_tree.proofs.{noted_made, rules, slot_in, sym, told_in, ◌∙◌}
use Rattle.scene_tree.proofs.tree.SceneTree.add_root.Goals as goal

pub invariant_of-self-2 : goal.invariant_of-self-2
invariant_of-self-2 g c =
    let sound = g.met.S.AnyStorage.sound in
    let n = c.in_ok-node.node in
    let made = c.in_ok-node.ensures in (
      new_kept c.self.invariant.0 (sound _) _ _ n made.made _ made.opened,
      made.linked,
      noted_made c.self.invariant.2 (sound _) (sound _) (made_is_simple c.self.invariant.0 (sound _) _ _ n made.made)
          _ _ n made.made (ap is_some (made_shown _ _ n made.made)) made.noted made.others,
      made.number ∙ (c.self.invariant.3 ∙ sym (meets_number _ _ _ _ made.made.1)),
    )

pub returns : goal.returns
returns g c =
    let sound = g.met.S.AnyStorage.sound in
    let k = c.self.invariant.0 in
    let n = c.in_ok-node.node in
    let h = c.in_ok-node.ensures.made in
    let opened = c.in_ok-node.ensures.opened in
    let shown = made_shown _ _ n h in
    let number = meets_number _ _ _ _ h.1 ∙ sym c.self.invariant.3 in
    rw (← c.self.view_is) (record {
      shown = shown;
      alone = live_family (record { state = _; families = _; sites = (told_in c.make.new.sites) }) n (ap is_some shown) ∙ new_alone k (sound _) _ _ n h _ opened;
      count = made_one_more k (sound _) _ _ n h;
      others = λ f other. left_with (record { state = _; families = _; sites = (told_in c.self.inside.sites) })
          (record { state = _; families = _; sites = (told_in c.make.new.sites) }) f (made_others (sound _) _ _ n h f other) (λ _. opened.same (slot_in f));
      left = λ f was. left_with (record { state = _; families = _; sites = (told_in c.self.inside.sites) })
          (record { state = _; families = _; sites = (told_in c.make.new.sites) }) f (made_left (sound _) _ _ n h f was) (λ _. opened.same (slot_in f));
      new = made_fresh _ _ n h;
      made = made_given _ _ n h;
      here = rw number c.in_ok-node.ensures.here;
      tells = λ f l told. rw number (c.in_ok-node.ensures.tells f l (rw (← c.self.invariant.3) at told));
      kept = λ f. meets_given _ _ _ _ h.1 _;
      refused = search rules;
      back = search rules;
      cause = search rules;
    })
