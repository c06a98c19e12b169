use Rattle.admission_tests.proofs.payloads.variables_of_lists_and_defaults_count.Given as goal

abbrev pub ghosts-wrong_row : goal.ghosts-wrong_row
ghosts-wrong_row g a = record { name = a.blank.name; parts = a.blank.parts }
