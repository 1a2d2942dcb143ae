use Rattle.test_restarts.proofs.restarts.gone_on_here.Given as goal

abbrev pub ghosts-gone_on-A-Ledger : goal.ghosts-gone_on-A-Ledger
ghosts-gone_on-A-Ledger g a = record { name = a.made.name; parts = a.made.parts }

abbrev pub ghosts-gone_on-A-Count : goal.ghosts-gone_on-A-Count
ghosts-gone_on-A-Count g a = record { workers = a.made.parts }

abbrev pub ghosts-gone_on-B-Ledger : goal.ghosts-gone_on-B-Ledger
ghosts-gone_on-B-Ledger g a = record { name = a.lent.name; parts = a.lent.parts }

abbrev pub ghosts-gone_on-B-Count : goal.ghosts-gone_on-B-Count
ghosts-gone_on-B-Count g a = record { workers = a.lent.parts }

abbrev pub ghosts-gone_on-C-Ledger : goal.ghosts-gone_on-C-Ledger
ghosts-gone_on-C-Ledger g a = record { name = a.changed.name; parts = a.changed.parts }

abbrev pub ghosts-gone_on-C-Count : goal.ghosts-gone_on-C-Count
ghosts-gone_on-C-Count g a = record { workers = a.changed.parts }

abbrev pub ghosts-gone_on-D-Ledger : goal.ghosts-gone_on-D-Ledger
ghosts-gone_on-D-Ledger g a = record { name = a.refused.name; parts = a.refused.parts }

abbrev pub ghosts-gone_on-D-Count : goal.ghosts-gone_on-D-Count
ghosts-gone_on-D-Count g a = record { workers = a.refused.parts }
