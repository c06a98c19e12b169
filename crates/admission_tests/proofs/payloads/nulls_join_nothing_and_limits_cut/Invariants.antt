use Rattle.admission_tests.proofs.payloads.nulls_join_nothing_and_limits_cut.Given as goal

abbrev pub ghosts-wrong_row : goal.ghosts-wrong_row
ghosts-wrong_row g a = record { name = a.blank.name; parts = a.blank.parts }
