use Rattle.scene_tree.proofs.{families, IsRooted, length, ℕ, ◌+◌, ◌<◌}
use Rattle.scene_tree.proofs.links.depth_at.Given as goal

abbrev pub invariant-loop-steps : goal.invariant-loop-steps
invariant-loop-steps g l =
    let fs = families l.links.items in
    record {
      rooted : (more : ℕ) × (l.steps + more < length l.links.items) × IsRooted fs more l.at;
      deeper : (d : ℕ) → IsRooted fs d l.at → IsRooted fs (l.steps + d) l.slot;
    }
