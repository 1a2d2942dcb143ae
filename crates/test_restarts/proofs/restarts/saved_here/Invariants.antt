use Rattle.test_restarts.proofs.restarts.saved_here.Given as goal

abbrev pub ghosts-saved-A-Ledger : goal.ghosts-saved-A-Ledger
ghosts-saved-A-Ledger g a = record { name = a.made.name; parts = a.made.parts }

abbrev pub ghosts-saved-A-Count : goal.ghosts-saved-A-Count
ghosts-saved-A-Count g a = record { workers = a.made.parts }

abbrev pub ghosts-saved-B-Ledger : goal.ghosts-saved-B-Ledger
ghosts-saved-B-Ledger g a = record { name = a.lent.name; parts = a.lent.parts }

abbrev pub ghosts-saved-B-Count : goal.ghosts-saved-B-Count
ghosts-saved-B-Count g a = record { workers = a.lent.parts }

abbrev pub ghosts-saved-C-Ledger : goal.ghosts-saved-C-Ledger
ghosts-saved-C-Ledger g a = record { name = a.changed.name; parts = a.changed.parts }

abbrev pub ghosts-saved-C-Count : goal.ghosts-saved-C-Count
ghosts-saved-C-Count g a = record { workers = a.changed.parts }

abbrev pub ghosts-saved-D-Ledger : goal.ghosts-saved-D-Ledger
ghosts-saved-D-Ledger g a = record { name = a.refused.name; parts = a.refused.parts }

abbrev pub ghosts-saved-D-Count : goal.ghosts-saved-D-Count
ghosts-saved-D-Count g a = record { workers = a.refused.parts }
