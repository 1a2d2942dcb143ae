use Rattle.test_restarts.proofs.restarts.saved_again_here.Given as goal

abbrev pub ghosts-saved_again-A-Ledger : goal.ghosts-saved_again-A-Ledger
ghosts-saved_again-A-Ledger g a = record { name = a.made.name; parts = a.made.parts }

abbrev pub ghosts-saved_again-A-Count : goal.ghosts-saved_again-A-Count
ghosts-saved_again-A-Count g a = record { workers = a.made.parts }

abbrev pub ghosts-saved_again-B-Ledger : goal.ghosts-saved_again-B-Ledger
ghosts-saved_again-B-Ledger g a = record { name = a.lent.name; parts = a.lent.parts }

abbrev pub ghosts-saved_again-B-Count : goal.ghosts-saved_again-B-Count
ghosts-saved_again-B-Count g a = record { workers = a.lent.parts }

abbrev pub ghosts-saved_again-C-Ledger : goal.ghosts-saved_again-C-Ledger
ghosts-saved_again-C-Ledger g a = record { name = a.changed.name; parts = a.changed.parts }

abbrev pub ghosts-saved_again-C-Count : goal.ghosts-saved_again-C-Count
ghosts-saved_again-C-Count g a = record { workers = a.changed.parts }

abbrev pub ghosts-saved_again-D-Ledger : goal.ghosts-saved_again-D-Ledger
ghosts-saved_again-D-Ledger g a = record { name = a.refused.name; parts = a.refused.parts }

abbrev pub ghosts-saved_again-D-Count : goal.ghosts-saved_again-D-Count
ghosts-saved_again-D-Count g a = record { workers = a.refused.parts }
