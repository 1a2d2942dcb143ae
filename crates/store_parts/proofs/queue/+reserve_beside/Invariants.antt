use Rattle.store_parts.proofs.queue.+reserve_beside.Given as goal

abbrev pub decreases-reserve_beside : goal.decreases-reserve_beside
decreases-reserve_beside l = l.beside
