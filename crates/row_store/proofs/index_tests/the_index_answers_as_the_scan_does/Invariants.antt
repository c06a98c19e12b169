use Rattle.row_store.proofs.index_tests.the_index_answers_as_the_scan_does.Given as goal

abbrev pub ghosts-runs : goal.ghosts-runs
ghosts-runs g a = record { name = a.blank.name; parts = a.blank.parts }
