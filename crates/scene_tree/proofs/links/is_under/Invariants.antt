use Rattle.scene_tree.proofs.{families, IsRooted, IsUnder, length, ℕ, ◌+◌, ◌<◌, ◌↔◌}
use Rattle.scene_tree.proofs.links.is_under.Given as goal

abbrev pub invariant-loop : goal.invariant-loop
invariant-loop g l =
    let fs = families l.links.items in
    record {
      rooted : (steps : ℕ) × (l.counter + steps < length l.links.items) × IsRooted fs steps l.at;
      same : ((steps : ℕ) × IsUnder fs l.top steps l.slot) ↔ ((steps : ℕ) × IsUnder fs l.top steps l.at);
    }
