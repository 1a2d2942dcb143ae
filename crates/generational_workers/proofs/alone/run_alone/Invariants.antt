use Rattle.generational_workers.proofs.alone.run_alone.Given as goal

abbrev pub ghosts-run_named-M-Ledger : goal.ghosts-run_named-M-Ledger
ghosts-run_named-M-Ledger g a = record { name = a.made.name; parts = a.made.parts }

abbrev pub ghosts-run_named-M-Count : goal.ghosts-run_named-M-Count
ghosts-run_named-M-Count g a = record { workers = a.made.parts }

abbrev pub ghosts-run_named-L-Ledger : goal.ghosts-run_named-L-Ledger
ghosts-run_named-L-Ledger g a = record { name = a.lent.name; parts = a.lent.parts }

abbrev pub ghosts-run_named-L-Count : goal.ghosts-run_named-L-Count
ghosts-run_named-L-Count g a = record { workers = a.lent.parts }

abbrev pub ghosts-run_named-C-Ledger : goal.ghosts-run_named-C-Ledger
ghosts-run_named-C-Ledger g a = record { name = a.changed.name; parts = a.changed.parts }

abbrev pub ghosts-run_named-C-Count : goal.ghosts-run_named-C-Count
ghosts-run_named-C-Count g a = record { workers = a.changed.parts }

abbrev pub ghosts-run_named-R-Ledger : goal.ghosts-run_named-R-Ledger
ghosts-run_named-R-Ledger g a = record { name = a.refused.name; parts = a.refused.parts }

abbrev pub ghosts-run_named-R-Count : goal.ghosts-run_named-R-Count
ghosts-run_named-R-Count g a = record { workers = a.refused.parts }
