use Rattle.std.proofs.Common.{length}
use Rattle.bench_libraries.proofs.memos.+sum_of.Given as goal

abbrev pub decreases-sum_of : goal.decreases-sum_of
decreases-sum_of g l = length l.keys.now
