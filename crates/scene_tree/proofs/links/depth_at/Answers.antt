use Rattle.scene_tree.proofs.{above, ap, arith, families, IsRooted, rooted_up, rooted_within, slot_of, Some, subst, suc}
use Rattle.scene_tree.proofs.{sym, ◌∙◌, ◌≡◌}
use Rattle.scene_tree.proofs.links.depth_at.Goals as goal

pub loop-steps-init : goal.loop-steps-init
loop-steps-init g c = grind (arith, rooted_within)

pub loop-steps-preserved : goal.loop-steps-preserved
loop-steps-preserved g c =
    let fs = families c.args.links.now.items in
    let up : above fs c.loop-steps.at ≡ Some c.slot_of-at.result =
    ap slot_of (sym c.parent_at.ensures ∙ c.in-Some.is) ∙ ap Some (sym c.slot_of-at.ensures) in
    let r = c.loop-steps.invariant.rooted in
    let lt = r.1 in
    let less = rooted_up fs r.0 c.loop-steps.at c.slot_of-at.result up r.2 in
    let one = less.1 in record {
      rooted = (less.0, omega (arith, lt, one), less.2);
      deeper = λ d down. subst (λ n. IsRooted fs n c.args.slot) (omega arith)
          (c.loop-steps.invariant.deeper (suc d) (c.slot_of-at.result, up, down));
    }

pub returns-in-None : goal.returns-in-None
returns-in-None g c = subst (λ n. IsRooted (families c.args.links.now.items) n c.args.slot) (omega arith)
    (c.loop-steps.invariant.deeper 0 (ap slot_of (sym c.parent_at.ensures ∙ c.in-None.is)))
