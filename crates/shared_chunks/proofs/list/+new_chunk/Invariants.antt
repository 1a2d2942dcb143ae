use Rattle.shared_chunks.proofs.list.+new_chunk.Given as goal

abbrev pub decreases-new_chunk : goal.decreases-new_chunk
decreases-new_chunk g l = l.beside
