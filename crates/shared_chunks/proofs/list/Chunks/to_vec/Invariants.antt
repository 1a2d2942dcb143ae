use Rattle.std.proofs.Common.{◌≡◌, take}
use Rattle.shared_chunks.specs.Listed.{joined_chunks}
use Rattle.shared_chunks.proofs.list.Chunks.to_vec.Given as goal

abbrev pub invariant-loop-chunk : goal.invariant-loop-chunk
invariant-loop-chunk g l = l.all.items ≡ joined_chunks (take l.chunk-index l.chunk-items)
