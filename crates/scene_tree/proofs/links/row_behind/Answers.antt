use Rattle.scene_tree.proofs.{ap, behind_up, sibling_row, sibling_within, slot_of, Some, sym, ◌∙◌}
use Rattle.scene_tree.proofs.links.row_behind.Goals as goal

pub at-requires-in-Some : goal.at-requires-in-Some
at-requires-in-Some g c =
    sibling_within c.args.links.now.items c.requires.linked c.requires.forest c.loop-steps.steps c.loop-steps.at
    c.loop-steps.invariant.placed c.loop-steps-test.true c.at.result c.at.ensures.link c.in-Some.sibling c.in-Some.is

pub returns-in-Some : goal.returns-in-Some
returns-in-Some g c =
    let row = sibling_row c.args.links.now.items c.requires.linked c.requires.forest c.loop-steps.steps c.loop-steps.at
    c.loop-steps.invariant.placed c.loop-steps-test.true c.at.result c.at.ensures.link
    c.in-Some.sibling c.in-Some.is c.at-in-Some.result c.at-in-Some.ensures.link in
    record { next = row.0 ∙ c.loop-steps.invariant.same; row = row.1 }

pub loop-steps-preserved : goal.loop-steps-preserved
loop-steps-preserved g c =
    let up = behind_up c.args.links.now.items c.requires.linked c.requires.forest c.loop-steps.steps c.loop-steps.at
    c.loop-steps.invariant.placed c.loop-steps-test.true c.at.result c.at.ensures.link c.in_default.is c.slot_of-at.result
    (ap slot_of (sym c.parent_at.ensures ∙ c.in-Some-parent_at.is) ∙ ap Some (sym c.slot_of-at.ensures)) in
    record { placed = up.0; same = up.1 ∙ c.loop-steps.invariant.same }
