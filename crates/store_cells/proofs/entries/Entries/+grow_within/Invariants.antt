use Rattle.store_cells.proofs.entries.Entries.+grow_within.Given as goal

abbrev pub decreases-grow_within : goal.decreases-grow_within
decreases-grow_within _ l = l.room
