use Rattle.bench_shared.proofs.main.Given as goal

abbrev pub ghosts-shared-A-Ledger : goal.ghosts-shared-A-Ledger
ghosts-shared-A-Ledger g a = record { name = a.made.name; parts = a.made.parts }

abbrev pub ghosts-shared-A-Count : goal.ghosts-shared-A-Count
ghosts-shared-A-Count g a = record { workers = a.made.parts }

abbrev pub ghosts-shared-B-Ledger : goal.ghosts-shared-B-Ledger
ghosts-shared-B-Ledger g a = record { name = a.lent.name; parts = a.lent.parts }

abbrev pub ghosts-shared-B-Count : goal.ghosts-shared-B-Count
ghosts-shared-B-Count g a = record { workers = a.lent.parts }

abbrev pub ghosts-shared-C-Ledger : goal.ghosts-shared-C-Ledger
ghosts-shared-C-Ledger g a = record { name = a.changed.name; parts = a.changed.parts }

abbrev pub ghosts-shared-C-Count : goal.ghosts-shared-C-Count
ghosts-shared-C-Count g a = record { workers = a.changed.parts }

abbrev pub ghosts-shared-D-Ledger : goal.ghosts-shared-D-Ledger
ghosts-shared-D-Ledger g a = record { name = a.refused.name; parts = a.refused.parts }

abbrev pub ghosts-shared-D-Count : goal.ghosts-shared-D-Count
ghosts-shared-D-Count g a = record { workers = a.refused.parts }
