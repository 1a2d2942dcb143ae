use Rattle.test_shared.proofs.unshared.without_threads.Given as goal

abbrev pub ghosts-one_by_one-A-Ledger : goal.ghosts-one_by_one-A-Ledger
ghosts-one_by_one-A-Ledger g a = record { name = a.made.name; parts = a.made.parts }

abbrev pub ghosts-one_by_one-A-Count : goal.ghosts-one_by_one-A-Count
ghosts-one_by_one-A-Count g a = record { workers = a.made.parts }

abbrev pub ghosts-one_by_one-B-Ledger : goal.ghosts-one_by_one-B-Ledger
ghosts-one_by_one-B-Ledger g a = record { name = a.lent.name; parts = a.lent.parts }

abbrev pub ghosts-one_by_one-B-Count : goal.ghosts-one_by_one-B-Count
ghosts-one_by_one-B-Count g a = record { workers = a.lent.parts }

abbrev pub ghosts-one_by_one-C-Ledger : goal.ghosts-one_by_one-C-Ledger
ghosts-one_by_one-C-Ledger g a = record { name = a.changed.name; parts = a.changed.parts }

abbrev pub ghosts-one_by_one-C-Count : goal.ghosts-one_by_one-C-Count
ghosts-one_by_one-C-Count g a = record { workers = a.changed.parts }

abbrev pub ghosts-one_by_one-D-Ledger : goal.ghosts-one_by_one-D-Ledger
ghosts-one_by_one-D-Ledger g a = record { name = a.refused.name; parts = a.refused.parts }

abbrev pub ghosts-one_by_one-D-Count : goal.ghosts-one_by_one-D-Count
ghosts-one_by_one-D-Count g a = record { workers = a.refused.parts }
