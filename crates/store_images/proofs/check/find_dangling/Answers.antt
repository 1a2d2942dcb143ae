use Rattle.std.proofs.Common.{refl, sym, ◌∙◌}
use Rattle.std.proofs.lemmas.Option.{slice_get_read}
use Rattle.store_images.proofs.{all_targets, noted_more, noted_still, target_more, targeted, untargeted}
use Rattle.store_images.proofs.check.find_dangling.Goals as goal
use Rattle.store_images.proofs.check.find_dangling.Goals.{in-Reference+else-not-is_shared_at, in_default}

pub loop-slot-preserved : goal.loop-slot-preserved
loop-slot-preserved g c =
    let there = slice_get_read _ _ _ _ refl c.loop-slot-test.true c.index-slots-slot.is in
    let before = c.loop-slot.invariant in
    elim c.match-image.branch [
      | in-Reference+else-not-is_shared_at w ↦
          let is = w.in-Reference.is in
          let shared = sym w.is_shared_at.ensures ∙ w.if-not-is_shared_at.false in
          record {
            targets = target_more _ _ _ there before.targets (targeted _ c.index-slots-slot.result _ _ _ is shared);
            long = c.match-image.auto.named ∙ before.long;
            named = rw w.named-is (noted_more _ _ c.index-slots-slot.result _ _ _ _ there is before.long shared before.named);
          }
      | in_default w ↦
          let none = w.in_default.not-Reference in
          record {
            targets = target_more _ _ _ there before.targets (untargeted _ c.index-slots-slot.result none);
            long = c.match-image.auto.named ∙ before.long;
            named = rw w.named-is (noted_still _ _ c.index-slots-slot.result _ there none before.named);
          }
    ]

pub returns-clause-none : goal.returns-clause-none
returns-clause-none g c k = all_targets _ _ c.loop-slot-test.false c.loop-slot.invariant.targets k
