use Rattle.store_room.proofs.+reserve_beside.Given as goal

abbrev pub decreases-reserve_beside : goal.decreases-reserve_beside
decreases-reserve_beside _ l = l.beside
