use Rattle.std.proofs.Common.{◌≡◌}
use Rattle.saved_bytes.specs.Files.{sum_upto}
use Rattle.saved_bytes.proofs.checksum.four_sums.Given as goal

abbrev pub invariant-loop-k : goal.invariant-loop-k
invariant-loop-k l =
    (l.a ≡ sum_upto 4 l.bytes 0 l.k) × (l.b ≡ sum_upto 4 l.bytes 1 l.k) × (l.c ≡ sum_upto 4 l.bytes 2 l.k)
    × (l.d ≡ sum_upto 4 l.bytes 3 l.k)
