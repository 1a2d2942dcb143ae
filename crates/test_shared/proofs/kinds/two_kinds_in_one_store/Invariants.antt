use Rattle.test_shared.proofs.kinds.two_kinds_in_one_store.Given as goal

abbrev pub ghosts-turns-A-Ledger : goal.ghosts-turns-A-Ledger
ghosts-turns-A-Ledger g a = record { name = a.made.name; parts = a.made.parts }

abbrev pub ghosts-turns-A-Count : goal.ghosts-turns-A-Count
ghosts-turns-A-Count g a = record { workers = a.made.parts }

abbrev pub ghosts-turns-B-Ledger : goal.ghosts-turns-B-Ledger
ghosts-turns-B-Ledger g a = record { name = a.lent.name; parts = a.lent.parts }

abbrev pub ghosts-turns-B-Count : goal.ghosts-turns-B-Count
ghosts-turns-B-Count g a = record { workers = a.lent.parts }

abbrev pub ghosts-turns-C-Ledger : goal.ghosts-turns-C-Ledger
ghosts-turns-C-Ledger g a = record { name = a.changed.name; parts = a.changed.parts }

abbrev pub ghosts-turns-C-Count : goal.ghosts-turns-C-Count
ghosts-turns-C-Count g a = record { workers = a.changed.parts }

abbrev pub ghosts-turns-D-Ledger : goal.ghosts-turns-D-Ledger
ghosts-turns-D-Ledger g a = record { name = a.refused.name; parts = a.refused.parts }

abbrev pub ghosts-turns-D-Count : goal.ghosts-turns-D-Count
ghosts-turns-D-Count g a = record { workers = a.refused.parts }
