use Rattle.std.proofs.Common.{◌≡◌, ◌≤◌, ◌*◌, vec_len, vec_capacity}
use Rattle.bench_boxes.proofs.workloads.share_many.Given as goal

-- ten keys for each value that was made, with room for all
abbrev pub invariant-loop-made : goal.invariant-loop-made
invariant-loop-made g l = record
    { made : vec_len l.keys ≡ 10 * l._made; room : 10 * l.values ≤ vec_capacity l.keys }
