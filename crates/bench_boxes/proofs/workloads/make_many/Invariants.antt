use Rattle.std.proofs.Common.{◌≡◌, ◌≤◌, vec_len, vec_capacity}
use Rattle.bench_boxes.proofs.workloads.make_many.Given as goal

-- as many keys as were made, with room for all
abbrev pub invariant-loop-made : goal.invariant-loop-made
invariant-loop-made g l =
    record { made : vec_len l.keys ≡ l._made; room : l.n ≤ vec_capacity l.keys }
