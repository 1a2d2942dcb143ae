use Rattle.document_tree.proofs.{ap, arith, at_id, is_some, led_more, led_none, led_rest, meets_given, meets_number, no_spot, quiet_sees}
use Rattle.document_tree.proofs.{refl, same_id_sees, simple_still, slice_get_within, slice_index_or, spot_at, ◌∙◌}
use Rattle.document_tree.specs.declared.building.Spot.{Spot}
use Rattle.document_tree.proofs.building.lead_all.Goals as goal

pub replace_value-old-requires : goal.replace_value-old-requires
replace_value-old-requires g c =
    let m : Spot = slice_index_or c.args.spots.now c.loop-at.at no_spot in
    let here = spot_at c.args.spots.now c.loop-at.at c.loop-at-test.true in
    let was = c.loop-at.invariant.rest c.loop-at.at m (omega arith) here in
    quiet_sees _ c.loop-at.invariant.simple.unborrowed m.place (g.met.S.AnyStorage.sound _)
    ∙ (ap is_some (same_id_sees _ m.place (at_id m.place.id) refl) ∙ ap is_some was)

pub loop-at-preserved : goal.loop-at-preserved
loop-at-preserved g c =
    let m : Spot = slice_index_or c.args.spots.now c.loop-at.at no_spot in
    let here = spot_at c.args.spots.now c.loop-at.at c.loop-at-test.true in
    let so = c.loop-at.invariant in
    let met = c.replace_value-old.ensures in
    record {
      simple = simple_still (g.met.S.AnyStorage.sound _) so.simple _ _ met tt tt;
      number = meets_number _ _ _ _ met ∙ so.number;
      given = λ n is. meets_given _ _ _ _ met n (so.given n is);
      led = led_more c.args.spots.now c.requires.spots.apart c.args.keys.now c.loop-at.at m here
          (g.met.S.AnyStorage.sound _) so.simple _ met so.led;
      rest = led_rest c.args.spots.now c.requires.spots.apart c.args.keys.now c.loop-at.at m here
          (g.met.S.AnyStorage.sound _) so.simple _ met so.rest;
      none = led_none c.args.spots.now c.requires.spots.apart c.args.keys.now c.loop-at.at m here
          (g.met.S.AnyStorage.sound _) so.simple _ met _ so.none;
    }

pub returns-clause-led : goal.returns-clause-led
returns-clause-led g c k m is =
    c.loop-at.invariant.led k m (omega (arith, slice_get_within c.args.spots.now k m is, c.loop-at-test.false)) is
