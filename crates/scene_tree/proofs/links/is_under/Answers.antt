use Rattle.scene_tree.proofs.{above, ap, arith, families, no_cycle, root_under, rooted_up, rooted_within, slot_of, Some}
use Rattle.scene_tree.proofs.{step_under, suc, sym, true≢false, under_up, ◌∙◌, ◌≡◌}
use Rattle.scene_tree.proofs.links.is_under.Goals as goal

pub loop-init : goal.loop-init
loop-init g c = grind (arith, rooted_within)

pub returns-in-None : goal.returns-in-None
returns-in-None g c = grind (arith, root_under)

pub loop-preserved : goal.loop-preserved
loop-preserved g c =
    let fs = families c.args.links.now.items in
    let up : above fs c.loop.at ≡ Some c.slot_of-at.result =
    ap slot_of (sym c.parent_at.ensures ∙ c.in-Some.is) ∙ ap Some (sym c.slot_of-at.ensures) in
    let r = c.loop.invariant.rooted in
    let lt = r.1 in
    let less = rooted_up fs r.0 c.loop.at c.slot_of-at.result up r.2 in
    let one = less.1 in record {
      rooted = (less.0, omega (arith, lt, one), less.2);
      same = (
        λ under. let here = c.loop.invariant.same.0 under in
            under_up fs c.args.top here.0 c.loop.at c.slot_of-at.result up c.if-at-top.false here.1,
        λ under. c.loop.invariant.same.1
            (suc under.0, step_under fs c.args.top under.0 c.loop.at c.slot_of-at.result up under.1),
      );
    }

pub returns-then-is_at : goal.returns-then-is_at
returns-then-is_at g c =
    let r = c.requires.forest.rooted c.args.top in (
      λ is. absurd (true≢false (sym is)),
      λ under.
          let here = c.loop.invariant.same.0 under in
          absurd (no_cycle _ r.0 c.args.top c.loop.at here.0 r.1 (ap slot_of (sym c.parent_at-above.ensures)
          ∙ c.is_at.ensures (grind arith)) here.1),
    )
