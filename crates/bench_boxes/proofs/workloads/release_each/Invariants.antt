use Rattle.bench_boxes.proofs.workloads.release_each.Given as goal

abbrev pub decreases-loop-owner : goal.decreases-loop-owner
decreases-loop-owner g l = goal.left-loop-owner g l
