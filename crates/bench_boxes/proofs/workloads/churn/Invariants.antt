use Rattle.std.proofs.Common.{◌<◌, vec_len}
use Rattle.bench_boxes.proofs.workloads.churn.Given as goal

-- numbers of 32 bits name all keys
abbrev pub invariant-loop-round : goal.invariant-loop-round
invariant-loop-round g l = vec_len l.keys < 4294967296
