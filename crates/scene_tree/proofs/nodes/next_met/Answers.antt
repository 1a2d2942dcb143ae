use Rattle.scene_tree.proofs.{ap, arith, drop_read, met, sym, ◌∙◌}
use Rattle.scene_tree.proofs.nodes.next_met.Goals as goal

pub returns-then-is_met-clause-found : goal.returns-then-is_met-clause-found
returns-then-is_met-clause-found g c =
    let rest = drop_read c.args.links.now.items _ c.at-link.result c.at-link.ensures.link in
    sym c.loop-slot.invariant ∙ (ap (met _ c.args.only_roots) rest ∙ grind arith)

pub loop-slot-preserved : goal.loop-slot-preserved
loop-slot-preserved g c =
    let rest = drop_read c.args.links.now.items _ c.at-link.result c.at-link.ensures.link in
    sym (ap (met _ c.args.only_roots) rest ∙ grind arith) ∙ c.loop-slot.invariant
