use Rattle.scene_tree.proofs.{behind, IsRowPlaced, Some, ◌≡◌}
use Rattle.scene_tree.proofs.links.row_behind.Given as goal

abbrev pub invariant-loop-steps : goal.invariant-loop-steps
invariant-loop-steps g l = record {
  placed : IsRowPlaced l.links.items l.steps l.at;
  same : behind l.links.items l.steps (Some l.at) ≡ behind l.links.items l.depth (Some l.slot);
}

abbrev pub decreases-loop-steps : goal.decreases-loop-steps
decreases-loop-steps g l = l.steps
