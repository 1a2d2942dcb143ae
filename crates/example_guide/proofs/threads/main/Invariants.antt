use Rattle.example_guide.proofs.threads.main.Given as goal

abbrev pub ghosts-serve_all-M-Ledger : goal.ghosts-serve_all-M-Ledger
ghosts-serve_all-M-Ledger g a = record { name = a.made.name; parts = a.made.parts }

abbrev pub ghosts-serve_all-M-Count : goal.ghosts-serve_all-M-Count
ghosts-serve_all-M-Count g a = record { workers = a.made.parts }

abbrev pub ghosts-serve_all-L-Ledger : goal.ghosts-serve_all-L-Ledger
ghosts-serve_all-L-Ledger g a = record { name = a.lent.name; parts = a.lent.parts }

abbrev pub ghosts-serve_all-L-Count : goal.ghosts-serve_all-L-Count
ghosts-serve_all-L-Count g a = record { workers = a.lent.parts }

abbrev pub ghosts-serve_all-C-Ledger : goal.ghosts-serve_all-C-Ledger
ghosts-serve_all-C-Ledger g a = record { name = a.changed.name; parts = a.changed.parts }

abbrev pub ghosts-serve_all-C-Count : goal.ghosts-serve_all-C-Count
ghosts-serve_all-C-Count g a = record { workers = a.changed.parts }

abbrev pub ghosts-serve_all-R-Ledger : goal.ghosts-serve_all-R-Ledger
ghosts-serve_all-R-Ledger g a = record { name = a.refused.name; parts = a.refused.parts }

abbrev pub ghosts-serve_all-R-Count : goal.ghosts-serve_all-R-Count
ghosts-serve_all-R-Count g a = record { workers = a.refused.parts }
