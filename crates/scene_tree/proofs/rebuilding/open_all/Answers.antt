use Rattle.scene_tree.proofs.{ap, arith, families, family_in, HasOpened, length, length-map, lone_after, lone_forest, lone_none}
use Rattle.scene_tree.proofs.{refl, slot_in, slot_of, subst, sym, ◌∙◌, ◌≡◌}
use Rattle.scene_tree.specs.Building.{AreLone}
use Rattle.scene_tree.proofs.rebuilding.open_all.Goals as goal

pub loop-slot-init : goal.loop-slot-init
loop-slot-init g c = record {
  number = refl;
  lone = subst AreLone (sym c.requires) lone_none;
  count = ap length c.requires;
  most = omega arith;
}

pub open_slot-requires : goal.open_slot-requires
open_slot-requires g c =
    let lone = subst AreLone (sym c.reserve.ensures.same) c.loop-slot.invariant.lone in
    let id = c.handle_at.ensures.id ∙ c.id_at.ensures in
    record {
      room = c.if-not-reserve.ensures.room refl;
      fits = c.if-not-reserve.ensures.fits refl;
      linked = lone.linked;
      forest = lone_forest c.reserve.new.self.items lone;
      number = grind (arith, ap (λ i. i.store) id);
      within = omega (arith, ap (λ i. i.slot) id, c.loop-slot.invariant.count, ap length c.reserve.ensures.same);
      root = ap (λ f. slot_of f.parent) (lone.lone (slot_in c.handle_at.result));
    }

pub loop-slot-preserved : goal.loop-slot-preserved
loop-slot-preserved g c =
    let links = c.reserve.new.self.items in
    let lone = subst AreLone (sym c.reserve.ensures.same) c.loop-slot.invariant.lone in
    let id = c.handle_at.ensures.id ∙ c.id_at.ensures in
    let opened : HasOpened links c.handle_at.result c.open_slot.new.links.items = record {
      linked = c.open_slot.ensures.linked;
      opened = c.open_slot.ensures.opened;
      longer = c.open_slot.ensures.longer;
      others = c.open_slot.ensures.others;
      noted = c.open_slot.ensures.noted;
    } in
    let old = length-map links (family_in links) in
    let new = length-map c.open_slot.new.links.items (family_in c.open_slot.new.links.items) in
    let at : slot_in c.handle_at.result ≡ length (families links) = omega (
      arith,
      ap (λ i. i.slot) id,
      c.loop-slot.invariant.count,
      ap length c.reserve.ensures.same,
      old,
    ) in
    record {
      number = c.open_slot.ensures.number ∙ (c.reserve.ensures.number ∙ c.loop-slot.invariant.number);
      lone = lone_after links c.open_slot.new.links.items c.handle_at.result lone opened;
      count = omega (
        arith,
        c.open_slot.ensures.opened.next at,
        old,
        new,
        c.loop-slot.invariant.count,
        ap length c.reserve.ensures.same,
      );
      most = omega (arith, c.loop-slot-test.true);
    }
