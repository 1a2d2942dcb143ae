use Rattle.test_shared.proofs.together.calls_under_one_lock.Given as goal

abbrev pub ghosts-live_under_one_lock-A-Ledger : goal.ghosts-live_under_one_lock-A-Ledger
ghosts-live_under_one_lock-A-Ledger g a = record { name = a.made.name; parts = a.made.parts }

abbrev pub ghosts-live_under_one_lock-A-Count : goal.ghosts-live_under_one_lock-A-Count
ghosts-live_under_one_lock-A-Count g a = record { workers = a.made.parts }

abbrev pub ghosts-live_under_one_lock-B-Ledger : goal.ghosts-live_under_one_lock-B-Ledger
ghosts-live_under_one_lock-B-Ledger g a = record { name = a.lent.name; parts = a.lent.parts }

abbrev pub ghosts-live_under_one_lock-B-Count : goal.ghosts-live_under_one_lock-B-Count
ghosts-live_under_one_lock-B-Count g a = record { workers = a.lent.parts }

abbrev pub ghosts-live_under_one_lock-C-Ledger : goal.ghosts-live_under_one_lock-C-Ledger
ghosts-live_under_one_lock-C-Ledger g a = record { name = a.changed.name; parts = a.changed.parts }

abbrev pub ghosts-live_under_one_lock-C-Count : goal.ghosts-live_under_one_lock-C-Count
ghosts-live_under_one_lock-C-Count g a = record { workers = a.changed.parts }

abbrev pub ghosts-live_under_one_lock-D-Ledger : goal.ghosts-live_under_one_lock-D-Ledger
ghosts-live_under_one_lock-D-Ledger g a = record { name = a.refused.name; parts = a.refused.parts }

abbrev pub ghosts-live_under_one_lock-D-Count : goal.ghosts-live_under_one_lock-D-Count
ghosts-live_under_one_lock-D-Count g a = record { workers = a.refused.parts }
