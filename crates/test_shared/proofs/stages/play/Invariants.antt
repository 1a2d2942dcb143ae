use Rattle.test_shared.proofs.stages.play.Given as goal

abbrev pub ghosts-play_with-A-Ledger : goal.ghosts-play_with-A-Ledger
ghosts-play_with-A-Ledger g a = record { name = a.made.name; parts = a.made.parts }

abbrev pub ghosts-play_with-A-Count : goal.ghosts-play_with-A-Count
ghosts-play_with-A-Count g a = record { workers = a.made.parts }

abbrev pub ghosts-play_with-B-Ledger : goal.ghosts-play_with-B-Ledger
ghosts-play_with-B-Ledger g a = record { name = a.lent.name; parts = a.lent.parts }

abbrev pub ghosts-play_with-B-Count : goal.ghosts-play_with-B-Count
ghosts-play_with-B-Count g a = record { workers = a.lent.parts }

abbrev pub ghosts-play_with-C-Ledger : goal.ghosts-play_with-C-Ledger
ghosts-play_with-C-Ledger g a = record { name = a.changed.name; parts = a.changed.parts }

abbrev pub ghosts-play_with-C-Count : goal.ghosts-play_with-C-Count
ghosts-play_with-C-Count g a = record { workers = a.changed.parts }

abbrev pub ghosts-play_with-D-Ledger : goal.ghosts-play_with-D-Ledger
ghosts-play_with-D-Ledger g a = record { name = a.refused.name; parts = a.refused.parts }

abbrev pub ghosts-play_with-D-Count : goal.ghosts-play_with-D-Count
ghosts-play_with-D-Count g a = record { workers = a.refused.parts }
