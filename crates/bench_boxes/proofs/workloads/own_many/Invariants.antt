use Rattle.std.proofs.Common.{◌+◌, ◌≤◌, vec_len, vec_capacity}
use Rattle.bench_boxes.proofs.workloads.own_many.Given as goal

-- room for the owners that are still to be made
abbrev pub invariant-loop-made : goal.invariant-loop-made
invariant-loop-made g l = vec_len l.owners + l.many ≤ vec_capacity l.owners + l._made
