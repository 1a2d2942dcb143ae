use Rattle.std.proofs.Common.{◌≡◌}
use Rattle.saved_bytes.specs.Files.{sum_upto}
use Rattle.saved_bytes.proofs.checksum.one_sum.Given as goal

abbrev pub invariant-loop-k : goal.invariant-loop-k
invariant-loop-k l = l.sum ≡ sum_upto 1 l.bytes 0 l.k
