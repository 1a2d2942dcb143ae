use Rattle.document_tree.proofs.{ap, arith, counted_place, length, no_spot, refl, slice_index_or, spot_at, subst, sym, ◌+◌, ◌<◌, ◌∙◌}
use Rattle.std.proofs.lemmas.List.{length-set}
use Rattle.document_tree.specs.Building.{AreSpotsCounted}
use Rattle.document_tree.specs.declared.building.Spot.{Spot}
use Rattle.document_tree.proofs.building.counts_of.Goals as goal

pub count_up-requires : goal.count_up-requires
count_up-requires c =
    let m : Spot = slice_index_or c.args.spots.now c.loop-at.at no_spot in
    let here = spot_at c.args.spots.now c.loop-at.at c.loop-at-test.true in
    omega (arith, c.requires.within c.loop-at.at m here, c.loop-at.invariant.length)

pub loop-at-preserved : goal.loop-at-preserved
loop-at-preserved c =
    let m : Spot = slice_index_or c.args.spots.now c.loop-at.at no_spot in
    let here = spot_at c.args.spots.now c.loop-at.at c.loop-at-test.true in
    let within : m.part < length c.loop-at.counts.items =
    omega (arith, c.requires.within c.loop-at.at m here, c.loop-at.invariant.length) in
    let after = c.if-not-count_up.ensures.counted refl in
    record {
      counted = subst (AreSpotsCounted c.args.spots.now (c.loop-at.at + 1)) (sym after)
          (counted_place c.args.spots.now c.requires.apart c.loop-at.at m here c.loop-at.counts.items within
          c.loop-at.invariant.counted _ refl);
      length = ap length after ∙ (length-set c.loop-at.counts.items _ _ ∙ c.loop-at.invariant.length);
    }
