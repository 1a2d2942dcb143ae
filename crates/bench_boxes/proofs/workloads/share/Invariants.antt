use Rattle.std.proofs.Common.{◌≡◌, ◌+◌, vec_len, vec_capacity}
use Rattle.bench_boxes.proofs.workloads.share.Given as goal

-- another key for each reference that was made
abbrev pub invariant-loop-referred : goal.invariant-loop-referred
invariant-loop-referred g l = record {
  more : vec_len l.keys ≡ vec_len l.fn.keys + l._referred;
  capacity : vec_capacity l.keys ≡ vec_capacity l.fn.keys;
}
